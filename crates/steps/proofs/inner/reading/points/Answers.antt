-- `steps::inner::reading::points` meets its contract.
use mathlib.Core.Path.{sym, ◌∙◌, ap}
use mathlib.Core.List.{List}
use Prim.Native.Nat.{◌<◌}
use native.Mathlib.Omega.{arith}
use lib.IntN.{ℤ}
use mir.Syntax.{w32}
use mir.Val.{to_z, of_z}
use Rattle.rows.specs.Rows.{placed}
use Rattle.grid.specs.Limits.{limit, all_on_grid}
use Rattle.grid.proofs.LimitLaws.{on_dropped}
use Rattle.steps.proofs.StandLaws.{points_read, stored_long, stored_behind, steps_there}
use Rattle.steps.proofs.inner.reading.points.Goals as goal

pub write_following-requires : goal.write_following-requires
write_following-requires c =
    let s = c.args in
    let some : 0 < s.n = omega (arith, c.if-n-eq0.false) in
    let asked = points_read s.bytes.now s.at s.width s.n some c.coordinate-x.type_inv c.coordinate-y.type_inv c.coordinate-x.ensures c.coordinate-y.ensures in
    record {
      there = steps_there c.requires.0 some c.requires.1;
      behind = omega arith;
      on = on_dropped limit 2 _ (sym (ap (all_on_grid limit) asked) ∙ c.requires.2);
      room = omega (arith, c.requires.3, stored_long s.out.now s.to (to_z w32 (of_z w32 c.coordinate-x.result)) (to_z w32 (of_z w32 c.coordinate-y.result)) (omega (arith, c.requires.3)));
    }

pub returns : goal.returns
returns c =
    let s = c.args in
    let some : 0 < s.n = omega (arith, c.if-n-eq0.false) in
    let asked = points_read s.bytes.now s.at s.width s.n some c.coordinate-x.type_inv c.coordinate-y.type_inv c.coordinate-x.ensures c.coordinate-y.ensures in
    c.write_following.ensures
    ∙ stored_behind s.out.now s.to _ _ (omega (arith, c.requires.3)) _ ∙ ap (λ (l : List ℤ). placed s.to l s.out.now) (sym asked)
