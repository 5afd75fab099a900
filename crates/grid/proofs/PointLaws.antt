-- Laws of points on the grid.
use Rattle.std.proofs.Common.{◌≡◌, ℕ, ◌+◌, ◌*◌, true, List, ℤ, ◌-ℤ◌, ◌∙◌, subst, ap₂, arith, w32, to_z, of_z}
use Rattle.integers.specs.Bound.{In}
use Rattle.integers.proofs.Bound.{in_sub}
use Rattle.integers.proofs.Logic.{and_left, and_right}
use Rattle.grid.specs.declared.Point.{Point}
use Rattle.grid.specs.Limits.{limit, on_grid, all_on_grid}
use Rattle.grid.specs.Points.{at, on}
use Rattle.grid.proofs.LimitLaws.{on_grid_in, on_grid_back, all_on_grid_at}

module _ (bound : ℕ) where
  pub x_on : (a : Point) → on bound a ≡ true → on_grid bound a.x ≡ true
  x_on a e = and_left (on_grid bound a.x) (on_grid bound a.y) e

  pub y_on : (a : Point) → on bound a ≡ true → on_grid bound a.y ≡ true
  y_on a e = and_right (on_grid bound a.x) (on_grid bound a.y) e

  -- every point of a row on the grid
  pub at_on : (row : List ℤ) (i : ℕ) → all_on_grid bound row ≡ true → on bound (at row i) ≡ true
  at_on row i e = rw (all_on_grid_at bound row (2 * i) e, all_on_grid_at bound row (2 * i + 1) e)

  -- from one coordinate to another
  pub gap_in : (a b : ℤ) → on_grid bound a ≡ true → on_grid bound b ≡ true → In (2 * bound) (b -ℤ a)
  gap_in a b p q =
      let twice : bound + bound ≡ 2 * bound = omega arith in
      subst (λ (n : ℕ). In n (b -ℤ a)) twice (in_sub (on_grid_in bound b q) (on_grid_in bound a p))

-- two coordinates on the grid, as they are passed
pub passed : (a b : ℤ) → on_grid limit a ≡ true → on_grid limit b ≡ true
    → (on_grid limit (to_z w32 (of_z w32 a)) ≡ true) × (on_grid limit (to_z w32 (of_z w32 b)) ≡ true)
passed a b p q = (rw (on_grid_back a p) p, rw (on_grid_back b q) q)

-- and their gap, as it is returned
pub gone : (a b : ℤ) {r : ℤ} → on_grid limit a ≡ true → on_grid limit b ≡ true → r ≡ to_z w32 (of_z w32 b) -ℤ to_z w32 (of_z w32 a) → r ≡ b -ℤ a
gone a b p q e = e ∙ ap₂ ◌-ℤ◌ (on_grid_back b q) (on_grid_back a p)
