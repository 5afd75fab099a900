-- `steps::inner::writing::difference` meets its contract.
use mathlib.Core.Path.{◌∙◌, ap₂}
use Prim.Native.Nat.{ℕ, ◌+◌}
use lib.ListN.{get_or}
use lib.IntN.{ℤ, pos, ◌-ℤ◌}
use mir.Syntax.{w32}
use Rattle.integers.specs.Bound.{In}
use Rattle.integers.proofs.Bound.{in_fits, in_sub, back, back_in}
use Rattle.grid.specs.Limits.{limit}
use Rattle.grid.proofs.LimitLaws.{on_grid_in, all_on_grid_at}
use Rattle.steps.proofs.inner.writing.difference.Goals as goal

-- every coordinate is on the grid
in_grid : (c : goal.After-result-2-1) (i : ℕ) → In limit (get_or c.args.contour.now i (pos 0))
in_grid c i = let z : ℤ = get_or c.args.contour.now i (pos 0) in on_grid_in limit z (all_on_grid_at limit c.args.contour.now i c.requires.1)

pub overflow_sub-result : goal.overflow_sub-result
unfolding limit
overflow_sub-result c =
    in_fits (in_sub (back_in w32 (in_grid c (c.args.k + 2)) tt) (back_in w32 (in_grid c c.args.k) tt)) tt

pub returns : goal.returns
unfolding limit
returns c =
    let to = in_grid c (c.args.k + 2) in
    let from = in_grid c c.args.k in
    back w32 (in_sub (back_in w32 to tt) (back_in w32 from tt)) tt ∙ ap₂ ◌-ℤ◌ (back w32 to tt) (back w32 from tt)
