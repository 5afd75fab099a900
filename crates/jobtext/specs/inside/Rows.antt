-- What the inner functions ask for.
use Rattle.std.specs.Prelude.{ℕ, ◌≤◌, List, Bool, length, ℤ}
use Rattle.setfile.specs.inside.Reading.{Readable}

-- a file of n contours that is not refused, and room for any contour of it
pub record Dumpable (second : Bool) (f : List ℕ) (n : ℕ) (points : List ℤ) : Type 0 where
  pub readable : Readable second f n
  pub roomy : 65534 ≤ length points
