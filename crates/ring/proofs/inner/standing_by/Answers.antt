-- `ring::inner::standing_by` meets its contract: no vertex passed is to go.
use mathlib.Core.Path.{sym, ◌∙◌}
use Rattle.ring.specs.Rule.{by}
use Rattle.ring.proofs.Along.{passed_none, short_on, going_met, passed_more, closing_from, last_met, passed_all}
use Rattle.ring.proofs.inner.standing_by.Goals as goal

pub loop-i-init : goal.loop-i-init
loop-i-init c = passed_none (by c.args.collinear) c.args.points.now c.requires.0 _ c.requires.1 c.edge_at-closing.ensures

pub goes_along-requires : goal.goes_along-requires
goes_along-requires c =
    short_on (by c.args.collinear) c.args.points.now c.requires.0 c.loop-i.invariant _ c.edge_at-from.ensures

pub returns-then-goes_along : goal.returns-then-goes_along
returns-then-goes_along c =
    going_met (by c.args.collinear) c.args.points.now c.requires.0 c.loop-i.invariant c.loop-i-test.true c.edge_at-from.ensures (sym c.goes_along.ensures ∙ c.if-goes_along.true)

pub loop-i-preserved : goal.loop-i-preserved
loop-i-preserved c =
    passed_more (by c.args.collinear) c.args.points.now c.requires.0 c.loop-i.invariant c.loop-i-test.true c.edge_at-from.ensures (sym c.goes_along.ensures ∙ c.if-goes_along.false)

pub goes_along-requires-2 : goal.goes_along-requires-2
goes_along-requires-2 c =
    short_on (by c.args.collinear) c.args.points.now c.requires.0 c.loop-i.invariant 0 (closing_from (by c.args.collinear) c.args.points.now c.requires.0 c.loop-i.invariant c.loop-i-test.false)

pub returns-then-goes_along-2 : goal.returns-then-goes_along-2
returns-then-goes_along-2 c =
    last_met (by c.args.collinear) c.args.points.now c.requires.0 c.loop-i.invariant c.loop-i-test.false (sym c.goes_along-2.ensures ∙ c.if-goes_along-2.true)

pub returns : goal.returns
returns c =
    passed_all (by c.args.collinear) c.args.points.now c.requires.0 c.loop-i.invariant c.loop-i-test.false (sym c.goes_along-2.ensures ∙ c.if-goes_along-2.false)
