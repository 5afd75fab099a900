-- How large a share is, by the bound of the grid.
use Rattle.std.proofs.Common.{◌≡◌, ℕ, ◌*◌, ◌^◌, ◌<◌, ◌≤◌, true, List, ℤ, ◌∙◌, subst, mul_assoc, mul_comm, mul-le-mul, arith}
use Rattle.integers.specs.Bound.{In}
use Rattle.integers.proofs.Bound.{in_mul}
use Rattle.grid.specs.Limits.{limit, all_on_grid}
use Rattle.grid.specs.Points.{at}
use Rattle.grid.proofs.LimitLaws.{on_grid_in}
use Rattle.grid.proofs.PointLaws.{at_on, x_on, y_on, gap_in}
use Rattle.area.specs.Shares.{share}

-- within twice the bound squared
pub share_within : (bound : ℕ) (row : List ℤ) (a b c : ℕ) → all_on_grid bound row ≡ true → In (2 * (bound * bound)) (share row a b c)
share_within bound row a b c on =
    let twice : bound * (2 * bound) ≡ 2 * (bound * bound) = mul_comm bound (2 * bound) ∙ mul_assoc 2 bound bound in
    subst (λ (n : ℕ). In n (share row a b c)) twice
    (in_mul (on_grid_in bound (at row b).x (x_on bound (at row b) (at_on bound row b on)))
    (gap_in bound (at row a).y (at row c).y (y_on bound (at row a) (at_on bound row a on)) (y_on bound (at row c) (at_on bound row c on))))

-- which fits 64 bits with room to spare, on either grid
pub shares_fit : (bound : ℕ) → bound ≤ limit → 2 * (bound * bound) < 2 ^ 62
unfolding limit
shares_fit bound h = omega (arith, mul-le-mul h h)
