-- What is asked and said of a row.
use Rattle.std.specs.Prelude.{◌≡◌, ℕ, ◌+◌, ◌-◌, ◌*◌, ◌%◌, ◌^◌, ◌<◌, ◌≤◌, true, false, List, length, ℤ}
use Rattle.std.specs.Int.{w32}
use Rattle.std.proofs.Common.{of_z}
use Rattle.grid.specs.Limits.{limit, all_on_grid}
use Rattle.grid.specs.Points.{at, same}

-- an i32 and a number added to it, modulo 2^32
unfoldable pub raised : ℕ → ℤ → ℕ
raised by z = (of_z w32 z + by) % 2 ^ 32

-- three positions of a row on the grid
pub record Vertices (row : List ℤ) (a b c : ℕ) : Type 0 where
  pub a_in : 2 * a + 1 < length row
  pub b_in : 2 * b + 1 < length row
  pub c_in : 2 * c + 1 < length row
  pub on : all_on_grid limit row ≡ true

-- every point before position r is the last of the n again, and the one at r, if r is a position, is not
pub record FirstOther (row : List ℤ) (n r : ℕ) : Type 0 where
  pub within : r ≤ n
  pub equal : (j : ℕ) → j < r → same (at row j) (at row (n - 1)) ≡ true
  pub differs : r < n → same (at row r) (at row (n - 1)) ≡ false
