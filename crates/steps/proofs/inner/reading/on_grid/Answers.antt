-- `steps::inner::reading::on_grid` meets its contract.
use borrow.Author.Rules.{rules}
use mathlib.Core.Path.{sym, ◌∙◌, ap}
use Prim.Native.Nat.{◌-◌, ◌<◌}
use native.Mathlib.Omega.{arith}
use lib.ListN.{drop}
use Rattle.integers.proofs.Logic.{and_left, and_right}
use Rattle.bits.specs.Bits.{bits}
use Rattle.grid.specs.Limits.{limit, all_on_grid}
use Rattle.steps.proofs.ReadLaws.{points_near}
use Rattle.steps.proofs.StandLaws.{no_points, points_read, two_told, steps_there}
use Rattle.steps.proofs.inner.reading.on_grid.Goals as goal

pub returns-then-n-eq0 : goal.returns-then-n-eq0
unfolding all_on_grid
returns-then-n-eq0 c = let s = c.args in ap (all_on_grid limit) (sym (no_points s.n s.width (drop s.at (bits s.bytes.now)) c.if-n-eq0.true))

-- near
pub returns-then-stays : goal.returns-then-stays
returns-then-stays c =
    let s = c.args in
    let some : 0 < s.n = omega (arith, c.if-n-eq0.false) in
    let r = c.stays.result in
    let q = c.stays-2.result in
    sym (ap (all_on_grid limit) (points_read s.bytes.now s.at s.width s.n some c.coordinate-x.type_inv c.coordinate-y.type_inv c.coordinate-x.ensures c.coordinate-y.ensures)
    ∙ points_near (s.n - 1) (steps_there c.requires.0 some c.requires.1) limit _ _
    (sym c.stays.ensures ∙ and_left r q c.if-stays.true) (sym c.stays-2.ensures ∙ and_right r q c.if-stays.true))

pub on_grid-requires : goal.on_grid-requires
unfolding limit
on_grid-requires c = search rules

pub on_grid-requires-2 : goal.on_grid-requires-2
unfolding limit
on_grid-requires-2 c = search rules

pub sums_on-requires : goal.sums_on-requires
sums_on-requires c = let p = c.requires in steps_there p.0 (omega (arith, c.if-n-eq0.false)) p.1

-- what is asked for, by what was tested and what follows
pub returns-then-on_grid : goal.returns-then-on_grid
unfolding limit
returns-then-on_grid c =
    let s = c.args in
    let asked = points_read s.bytes.now s.at s.width s.n (omega (arith, c.if-n-eq0.false)) c.coordinate-x.type_inv c.coordinate-y.type_inv c.coordinate-x.ensures c.coordinate-y.ensures in
    c.sums_on.ensures ∙ sym (ap (all_on_grid limit) asked ∙ two_told limit _ _ _ c.on_grid.ensures c.on_grid-2.ensures c.if-on_grid.true)

pub returns : goal.returns
unfolding limit
returns c =
    let s = c.args in
    let asked = points_read s.bytes.now s.at s.width s.n (omega (arith, c.if-n-eq0.false)) c.coordinate-x.type_inv c.coordinate-y.type_inv c.coordinate-x.ensures c.coordinate-y.ensures in
    sym (ap (all_on_grid limit) asked ∙ two_told limit _ _ _ c.on_grid.ensures c.on_grid-2.ensures c.if-on_grid.false)
