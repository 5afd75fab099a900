-- What is asked of a shape and a point.
use Rattle.std.specs.Prelude.{◌≡◌, ℕ, true, List, ℤ}
use Rattle.grid.specs.Limits.{limit}
use Rattle.grid.specs.declared.Point.{Point}
use Rattle.grid.specs.Points.{on}
use Rattle.replies.specs.Ladder.{first_of}
use Rattle.buffer.specs.Contours.{refusals}

-- a set that no call refuses, and a point on the grid, as the inner functions ask for them
pub record Asked (p : List ℤ) (ranges : List (List ℕ)) (a : Point) : Type 0 where
  pub taken : first_of (refusals p ranges) ≡ 0
  pub on_grid : on limit a ≡ true
