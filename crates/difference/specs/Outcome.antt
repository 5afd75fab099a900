-- What comparing two sets answers, and what it leaves in the row that is lent to it.
use Rattle.std.specs.Prelude.{Result, Ok, Err, List, ◌++◌, ℕ, zero, suc, max, leb, length, ℤ}
use Rattle.replies.specs.Ladder.{Rung, first_of, room}
use Rattle.rows.specs.Rows.{front}
use Rattle.buffer.specs.Contours.{refusals}
use Rattle.replies.specs.Refusals.{number}
use Rattle.difference.specs.declared.Refused.{Refused}
use Rattle.difference.specs.declared.Refused.TheVariants.{First, Second, Room}
use Rattle.difference.specs.declared.Compared.{Compared}
use Rattle.difference.specs.declared.inner.lines.Line.{Line}
use Rattle.difference.specs.Lines.{lines_of, written}

-- the first set's 1, 2, 6 or 3, then the second's, then 5 for a listing with fewer places than the larger contour count
abbrev pub all_refusals : List ℤ → List (List ℕ) → List ℤ → List (List ℕ) → List (List ℕ) → List Rung
all_refusals points ranges others other-ranges listing =
    refusals points ranges ++ refusals others other-ranges ++ room (leb (max (length ranges) (length other-ranges)) (length listing))

-- whose refusal it is, by the first set's own and the second's own: 1, 2, or 0 where neither has one
abbrev pub whose : ℕ → ℕ → ℕ
whose (suc a) b = 1
whose zero (suc b) = 2
whose zero zero = 0

-- the answer, and the listing as it is left
pub record Outcome : Type 0 where
  pub answer : Compared
  pub listing : List (List ℕ)

abbrev pub leaving : Compared → List (List ℕ) → Outcome
leaving answer listing = record { answer = answer; listing = listing }

-- an answer of a comparison
abbrev pub answer : ℕ → ℕ → ℕ → Compared
answer reply refused contours = record { reply = reply; refused = refused; contours = contours }

-- how many contours are listed, or why none is, as C has it
abbrev pub compared_as : Result ℕ Refused → Compared
compared_as (Ok n) = answer 0 0 n
compared_as (Err (First r)) = answer (number r) 1 0
compared_as (Err (Second r)) = answer (number r) 2 0
compared_as (Err Room) = answer 5 0 0

-- by the number of the first refusal: refused, and the listing as it was, or the lines in front of it
abbrev pub answered : ℕ → ℕ → List Line → List (List ℕ) → Outcome
answered (suc k) refused lines listing = leaving (answer (suc k) refused 0) listing
answered zero refused lines listing = leaving (answer 0 0 (length lines)) (front (written lines) listing)

-- what comparing two sets leaves
unfoldable pub outcome : List ℤ → List (List ℕ) → List ℤ → List (List ℕ) → List (List ℕ) → Outcome
outcome points ranges others other-ranges listing =
    answered (first_of (all_refusals points ranges others other-ranges listing))
    (whose (first_of (refusals points ranges)) (first_of (refusals others other-ranges)))
    (lines_of points ranges others other-ranges) listing
