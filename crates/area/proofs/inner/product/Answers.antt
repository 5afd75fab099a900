-- `area::inner::product` meets its contract: coordinates of the grid are small enough to be multiplied.
use Rattle.std.proofs.Common.{◌*ℤ◌, ◌∙◌, ap₂, w64}
use Rattle.integers.specs.Bound.{In}
use Rattle.integers.proofs.Bound.{in_fits, in_eq, in_mul, back, back_in}
use Rattle.grid.specs.Limits.{limit}
use Rattle.grid.proofs.LimitLaws.{on_grid_in, on_grid_back}
use Rattle.area.proofs.inner.product.Goals as goal

-- the coordinate, widened
x_in : (c : goal.After-from) → In limit c.from.result
x_in c = let e = c.requires.0 in in_eq (c.from.ensures ∙ on_grid_back _ e) (on_grid_in limit _ e)

pub overflow_mul-result : goal.overflow_mul-result
unfolding limit
overflow_mul-result c = in_fits (in_mul (back_in w64 (x_in c) tt) (back_in w64 c.requires.1 tt)) tt

pub returns : goal.returns
unfolding limit
returns c =
    back w64 (in_mul (back_in w64 (x_in c) tt) (back_in w64 c.requires.1 tt)) tt
    ∙ ap₂ ◌*ℤ◌ (back w64 (x_in c) tt ∙ c.from.ensures ∙ on_grid_back _ c.requires.0) (back w64 c.requires.1 tt)
