-- What the theorems say of contours that repeat.
use Rattle.std.specs.Prelude.{◌≡◌, true, false, List, ℕ, ◌<◌, ◌≤◌, ℤ}
use Rattle.turned.specs.Starts.{starts_at}

-- p is the smallest count of points, from 1 on, after which a contour of n points repeats
pub record RepeatsAfter (row : List ℤ) (n p : ℕ) : Type 0 where
  pub some : 0 < p
  pub most : p ≤ n
  pub again : starts_at row row n p ≡ true
  pub smallest : (q : ℕ) → 0 < q → q < p → starts_at row row n q ≡ false
