-- What the walk of a contour asks and leaves.
use Rattle.std.specs.Prelude.{◌≡◌, List, [], ℕ, ◌≤◌, length, replicate, ℤ}
use Rattle.grid.specs.Domain.{Contour}
use Rattle.rows.specs.Rows.{front}
use Rattle.ring.specs.declared.Rule.{Rule}
use Rattle.ring.specs.Walk.{marked, survivors, occurrences}
use Rattle.clean.specs.declared.cleaning.Cleaned.{Cleaned}
use Rattle.clean.specs.declared.inner.settling.Survived.{Survived}
use Rattle.clean.specs.Outcome.{walked, chosen, lent, Outcome, finished}

-- a contour with scratch of exactly its points' count, and room
pub record Ready (row : List ℤ) (next prev mark : List ℕ) (out : List ℤ) : Type 0 where
  pub contour : Contour row (length mark)
  pub next_long : length next ≡ length mark
  pub prev_long : length prev ≡ length mark
  pub room : length row ≤ length out

-- what the walk of a contour comes to with an output alone
abbrev pub alone : Rule → List ℤ → List ℤ → Outcome
alone rule row out = finished row (walked rule row).end (walked rule row).tally (lent [] [] [] out)

-- the answer and the output are those of a walk that has ended
pub record Settled (rule : Rule) (row out : List ℤ) (r : Cleaned) (exit : List ℤ) : Type 0 where
  pub answer : r ≡ (alone rule row out).answer
  pub output : exit ≡ (alone rule row out).rows.out

-- the points that survive are written in front of the output, so many, and so many of them are marked
pub record WrittenOut (row : List ℤ) (mark : List ℕ) (out : List ℤ) (r : Survived) (exit : List ℤ) : Type 0 where
  pub points_are : r.points ≡ length (survivors mark)
  pub marked_are : r.marked ≡ occurrences marked mark
  pub output : exit ≡ front (chosen row (survivors mark)) out

-- all three scratch rows are zeroed
pub record Swept (n : ℕ) (next prev mark : List ℕ) : Type 0 where
  pub next-zero : next ≡ replicate n 0
  pub prev-zero : prev ≡ replicate n 0
  pub mark-zero : mark ≡ replicate n 0
