-- What writing a file of edition 2 answers, and what it leaves in the row of bytes.
use Rattle.std.specs.Prelude.{ℕ, ◌&&◌, List, ◌++◌, length, ℤ, nat_le}
use Rattle.replies.specs.Ladder.{Rung, first_of, room}
use Rattle.grid.specs.Limits.{limit}
use Rattle.grid.specs.Domain.{count, size, off}
use Rattle.buffer.specs.Spans.{spans, sound}
use Rattle.buffer.specs.Sets.{shapes}
use Rattle.buffer.specs.Refusals.{unsound}
use Rattle.setfile.specs.Entries.{entries}
use Rattle.setfile.specs.Layouts.{file_in}
use Rattle.setfile.specs.Edition2.{edition_2}
use Rattle.setfile.specs.Reading.{long}
use Rattle.setfile.specs.Writing.{uncarried, Outcome, written}

-- the file of a set in edition 2
abbrev pub file_of : List ℤ → List (List ℕ) → List (List ℕ) → List ℕ
file_of p cs ss = file_in 2 edition_2 (entries (shapes p (spans cs) (spans ss)))

-- what is refused of a set, in order: 1, 2 for its points, 6, 3, 12
abbrev pub set_refusals : List ℤ → List (List ℕ) → List (List ℕ) → List Rung
set_refusals p cs ss =
    size p ++ unsound (sound (spans cs) (count p) && sound (spans ss) (length cs)) ++ off limit p ++ uncarried (spans cs) (spans ss)

-- and then 2 for its file's length
abbrev pub refusals : List ℤ → List (List ℕ) → List (List ℕ) → List Rung
refusals p cs ss = set_refusals p cs ss ++ long (length (file_of p cs ss))

-- a set is refused, also for want of room, or its file is written to the front of the row
unfoldable pub outcome : List ℤ → List (List ℕ) → List (List ℕ) → List ℕ → Outcome
outcome p cs ss row =
    written (first_of (refusals p cs ss ++ room (nat_le (length (file_of p cs ss)) (length row)))) (file_of p cs ss) row
