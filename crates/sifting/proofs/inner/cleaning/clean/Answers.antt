-- `sifting::inner::cleaning::clean` meets its contract.
use native.Mathlib.Omega.{arith}
use Rattle.sifting.proofs.GoingLaws.{so_far_none, next_of, so_far_more, so_far_all}
use Rattle.sifting.proofs.inner.cleaning.clean.Goals as goal

pub loop-i-init : goal.loop-i-init
loop-i-init c = let a = c.args in so_far_none a.rule a.points.now a.records.now a.n

pub next_contour-at-requires : goal.next_contour-at-requires
next_contour-at-requires c =
    let a = c.args in
    let p = c.requires in
    let long = c.loop-i.auto in
    next_of a.rule a.points.now a.records.now a.n p.lies p.fair p.in_domain _ c.loop-i-test.true c.loop-i.invariant.reached _ _ _
    (omega (arith, p.scratch.in_next, long.next)) (omega (arith, p.scratch.in_prev, long.prev)) (omega (arith, p.scratch.in_mark, long.mark))

pub loop-i-preserved : goal.loop-i-preserved
loop-i-preserved c =
    let a = c.args in
    let p = c.requires in
    so_far_more a.rule a.points.now a.records.now a.n p.lies p.fair p.in_domain _ c.loop-i-test.true c.loop-i.invariant.reached _ _ _ c.next_contour-at.ensures

pub returns : goal.returns
returns c =
    let a = c.args in
    so_far_all a.rule a.points.now a.records.now a.n c.requires.lies c.requires.fair c.requires.in_domain _ _ _ _ c.loop-i.invariant c.loop-i-test.false
