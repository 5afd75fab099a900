-- `path::inner::parity_from` meets its contract: from edge to edge that changes side, the parity so far and that of the edges left make up the whole.
use mathlib.Core.Path.{sym, ◌∙◌, ap₂}
use mathlib.Core.Bool.{xor}
use borrow.Author.Tests.{not-true, not-false}
use Rattle.grid.specs.Limits.{limit}
use Rattle.grid.specs.Points.{at}
use Rattle.grid.proofs.PointLaws.{at_on}
use Rattle.path.specs.Contains.{meets_right}
use Rattle.path.proofs.ContainsLaws.{side_is, crosses_up, crosses_down, changing_next, changing_done}
use Rattle.path.proofs.inner.parity_from.Goals as goal

pub meets_right-odd-requires : goal.meets_right-odd-requires
meets_right-odd-requires c =
    let row = c.args.points.now in
    (c.requires.1, rw c.point_at-start.ensures (at_on limit row c.loop-i.a c.requires.0.on), rw c.point_at-end.ensures (at_on limit row c.loop-i.i c.requires.0.on))

pub loop-i-preserved-then-lies_above : goal.loop-i-preserved-then-lies_above
unfolding xor
loop-i-preserved-then-lies_above c =
    let row = c.args.points.now in
    let p = c.args.p in
    let told = side_is p c.lies_above.ensures c.point_at-end.ensures in
    changing_next row p c.requires.0 c.loop-i.invariant c.loop-i-test.true
    (c.meets_right-odd.ensures ∙ ap₂ (meets_right p) c.point_at-start.ensures c.point_at-end.ensures
    ∙ crosses_up p (at row c.loop-i.a) (at row c.loop-i.i) (not-true _ (sym (told ∙ c.loop-i.invariant.changes c.loop-i-test.true) ∙ c.if-lies_above.true)) (sym told ∙ c.if-lies_above.true))
    (sym told ∙ c.if-lies_above.true) c.next_across-i.ensures

pub meets_right-odd-requires-else-lies_above : goal.meets_right-odd-requires-else-lies_above
meets_right-odd-requires-else-lies_above c =
    let row = c.args.points.now in
    (c.requires.1, rw c.point_at-end.ensures (at_on limit row c.loop-i.i c.requires.0.on), rw c.point_at-start.ensures (at_on limit row c.loop-i.a c.requires.0.on))

pub loop-i-preserved : goal.loop-i-preserved
unfolding xor
loop-i-preserved c =
    let row = c.args.points.now in
    let p = c.args.p in
    let told = side_is p c.lies_above.ensures c.point_at-end.ensures in
    changing_next row p c.requires.0 c.loop-i.invariant c.loop-i-test.true
    (c.meets_right-odd-else-lies_above.ensures ∙ ap₂ (meets_right p) c.point_at-end.ensures c.point_at-start.ensures
    ∙ crosses_down p (at row c.loop-i.a) (at row c.loop-i.i) (not-false _ (sym (told ∙ c.loop-i.invariant.changes c.loop-i-test.true) ∙ c.if-lies_above.false)) (sym told ∙ c.if-lies_above.false))
    (sym told ∙ c.if-lies_above.false) c.next_across-i-else-lies_above.ensures

pub returns : goal.returns
returns c = changing_done c.args.points.now c.args.p c.requires.0 c.loop-i.invariant c.loop-i-test.false
