-- Where a contour changes side of a point's horizontal, and the parity up to there.
use Rattle.std.specs.Prelude.{◌≡◌, Bool, not, List, ℕ, zero, suc, ◌-◌, ◌<◌, ◌≤◌, drop, ℤ}
use Rattle.std.specs.Bool.{xor}
use Rattle.grid.specs.declared.Point.{Point}
use Rattle.grid.specs.Points.{at, points}
use Rattle.path.specs.Contains.{above, odd, contained}

-- from position i up to r all points lie on one side of p's horizontal, and the one at r, if r is a position of the n, on the other
pub record Across (row : List ℤ) (n i : ℕ) (p : Point) (up : Bool) (r : ℕ) : Type 0 where
  pub from : i ≤ r
  pub within : r ≤ n
  pub skipped : (j : ℕ) → i ≤ j → j < r → above p (at row j) ≡ up
  pub changed : r < n → above p (at row r) ≡ not up

-- the position before i of n, around the contour
unfoldable pub before : ℕ → ℕ → ℕ
before n zero = n - 1
before n (suc i) = i

-- the parity of the edges up to position a is known, and the one from a to i, if i is a position of the n, changes side
pub record Changing (row : List ℤ) (n : ℕ) (p : Point) (sofar : Bool) (a i : ℕ) : Type 0 where
  pub a_in : a < n
  pub within : i ≤ n
  pub changes : i < n → above p (at row i) ≡ not (above p (at row a))
  pub is : contained p (points row) ≡ xor sofar (odd p (at row a) (drop i (points row)))
