-- What writing a file answers, and what it leaves in the row of bytes.
use Rattle.std.specs.Prelude.{Result, Ok, Err, ℕ, zero, suc, Bool, false, ◌&&◌, ◌||◌, List, [], ◌∷◌, ◌++◌, length, ℤ, ◌==◌, nat_le, nat_lt}
use Rattle.replies.specs.Ladder.{Rung, first_of, room}
use Rattle.grid.specs.Limits.{narrow}
use Rattle.grid.specs.Domain.{count, size, off}
use Rattle.rows.specs.Rows.{front}
use Rattle.buffer.specs.declared.ranges.Span.{Span}
use Rattle.buffer.specs.Spans.{spans, sound, size as span_size}
use Rattle.buffer.specs.Sets.{shapes}
use Rattle.buffer.specs.Refusals.{unsound}
use Rattle.replies.specs.declared.refusal.Refusal.{Refusal}
use Rattle.replies.specs.Refusals.{number}
use Rattle.setfile.specs.declared.answer.Written.{Written}
use Rattle.setfile.specs.Entries.{entries}
use Rattle.setfile.specs.Format.{file, file_length}
use Rattle.setfile.specs.Reading.{long}

-- the most contours of a file
abbrev pub most_contours : ℕ
most_contours = 4095

-- the most points of a contour in a file
abbrev pub most_points : ℕ
most_points = 32767

-- one of the spans is longer than this
unfoldable pub some_over : ℕ → List Span → Bool
some_over n [] = false
some_over n (s ∷ l) = nat_lt n (span_size s) || some_over n l

-- one of the spans is empty
unfoldable pub some_empty : List Span → Bool
some_empty [] = false
some_empty (s ∷ l) = span_size s == 0 || some_empty l

-- 12: over 4,095 contours, over 32,767 points in one, or an empty shape
abbrev pub uncarried : List Span → List Span → List Rung
uncarried cs ss = (nat_lt most_contours (length cs) || some_over most_points cs || some_empty ss, 12) ∷ []

-- what is refused of a set, in order: 1, 2 for its points and for its file's length, 6, 3, 12
abbrev pub refusals : List ℤ → List (List ℕ) → List (List ℕ) → List Rung
refusals p cs ss =
    size p ++ long (file_length (length cs) (count p))
    ++ unsound (sound (spans cs) (count p) && sound (spans ss) (length cs))
    ++ off narrow p ++ uncarried (spans cs) (spans ss)

-- how many bytes were written or why none was, as C has it
abbrev pub written_as : Result ℕ Refusal → Written
written_as (Ok n) = record { reply = 0; bytes = n }
written_as (Err r) = record { reply = number r; bytes = 0 }

-- the answer, and the row of bytes as it is left
pub record Outcome : Type 0 where
  pub answer : Written
  pub bytes : List ℕ

abbrev pub leaving : ℕ → ℕ → List ℕ → Outcome
leaving reply n bytes = record { answer = record { reply = reply; bytes = n }; bytes = bytes }

-- by the number of the first refusal: refused, and the row as it was, or a file in front of it
abbrev pub written : ℕ → List ℕ → List ℕ → Outcome
written (suc k) f row = leaving (suc k) 0 row
written zero f row = leaving 0 (length f) (front f row)

-- a set is refused, also for want of room, or its file is written to the front of the row
unfoldable pub outcome : List ℤ → List (List ℕ) → List (List ℕ) → List ℕ → Outcome
outcome p cs ss row =
    written
    (first_of (refusals p cs ss ++ room (nat_le (file_length (length cs) (count p)) (length row))))
    (file (entries (shapes p (spans cs) (spans ss)))) row
