-- What the theorems say of listings.
use Rattle.std.specs.Prelude.{◌≡◌, List, ℕ, ◌+◌, take, ℤ}
use Rattle.grid.specs.Domain.{count}
use Rattle.turned.specs.Starts.{started_at}
use Rattle.turned.specs.Promises.{RepeatsAfter}
use Rattle.difference.specs.declared.inner.lines.Line.{Line}
use Rattle.difference.specs.Lines.{same, elsewhere, different, compared}
use Rattle.difference.specs.Outcome.{Outcome}

-- the lines that were written, as far as the answer counts them
abbrev pub told : Outcome → List (List ℕ)
told o = take o.answer.contours o.listing

-- of two contours it is told that they are the same, or from which start of the second on; and it is so
pub data ToldAgain (first second : List ℤ) : Type 0 where
  as_the_same : compared first second ≡ same → second ≡ first → ToldAgain first second
  from_a_start : (s : ℕ) → compared first second ≡ elsewhere s → started_at s second ≡ first → ToldAgain first second

-- a line of two contours, and the line of the same two the other way round: a start and the start back are together what repeats
pub data Mirrored (second : List ℤ) : Line → Line → Type 0 where
  same_both_ways : Mirrored second same same
  there_and_back : (s t : ℕ) → RepeatsAfter second (count second) (s + t) → Mirrored second (elsewhere s) (elsewhere t)
  different_both_ways : (d : ℕ) → Mirrored second (different d) (different d)
