-- `path::inner::next_reached` meets its contract: the grid leaves room for one below.
use mathlib.Core.Path.{◌≡◌, ◌∙◌, ap, ap₂, subst}
use mathlib.Core.Bool.{true, false}
use Prim.Native.Nat.{◌+◌}
use native.Mathlib.Omega.{arith}
use lib.IntN.{ℤ, pos, ◌-ℤ◌}
use mir.Syntax.{w32}
use mir.Val.{to_z, of_z}
use Rattle.integers.specs.Bound.{In}
use Rattle.integers.proofs.Bound.{in_sub, in_pos, in_fits, in_eq, back}
use Rattle.grid.specs.declared.Point.{Point}
use Rattle.grid.specs.Limits.{limit}
use Rattle.grid.specs.Points.{on}
use Rattle.grid.proofs.LimitLaws.{on_grid_in, on_grid_back}
use Rattle.grid.proofs.PointLaws.{x_on, y_on}
use Rattle.path.specs.inside.Contains.{Across}
use Rattle.path.specs.inside.Locate.{under}
use Rattle.path.proofs.inner.next_reached.Goals as goal

module _ (p : Point) (h : on limit p ≡ true) where
  one_below : In (limit + 1) (to_z w32 (of_z w32 p.y) -ℤ pos 1)
  one_below = in_sub (in_eq (on_grid_back p.y (y_on limit p h)) (on_grid_in limit p.y (y_on limit p h))) (in_pos {n = 1} {B = 1} (omega arith))

  -- the point as it is passed on
  passed : ◌≡◌ {A = Point} (record { x = to_z w32 (of_z w32 p.x); y = to_z w32 (of_z w32 (to_z w32 (of_z w32 p.y) -ℤ pos 1)) }) (under p)
  unfolding limit
  passed = ap₂ (λ (x y : ℤ). record { x = x; y = y }) (on_grid_back p.x (x_on limit p h)) (back w32 one_below tt ∙ ap (λ (y : ℤ). y -ℤ pos 1) (on_grid_back p.y (y_on limit p h)))

pub overflow_sub-p : goal.overflow_sub-p
unfolding limit
overflow_sub-p c = in_fits (one_below _ c.requires.2) tt

pub returns : goal.returns
returns c =
    subst (λ (q : Point). Across c.args.points.now c.args.n c.args.i q false c.next_across.result) (passed _ c.requires.2) c.next_across.ensures
