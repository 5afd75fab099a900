-- `sets::inner::shape::shape` meets its contract: what is left of the shape is cleaned from where the loop has come to.
use Rattle.std.proofs.Common.{arith}
use borrow.Author.Tests.{not-true, not-false}
use Rattle.buffer.proofs.PartLaws.{same_numbers}
use Rattle.sets.proofs.ShapeLaws.{laying_placeable, laying_falls, laying_more, laying_all}
use Rattle.sets.proofs.inner.shape.shape.Goals as goal
use Rattle.sets.proofs.inner.shape.shape.Goals.{else-i-eq0-via-then-i-eq0+else-not-tried, else-i-eq0-via-else-i-eq0}

pub behind-tried-requires : goal.behind-tried-requires
behind-tried-requires c =
    let long = c.loop-i.auto in
    let rows = c.requires.scratch in
    rw (same_numbers c.named-own.ensures)
    (laying_placeable c.loop-i.invariant c.requires.named c.loop-i-test.true _ _ _
    (record { in_next = omega (arith, long.next, rows.in_next); in_prev = omega (arith, long.prev, rows.in_prev); in_mark = omega (arith, long.mark, rows.in_mark) }))

pub returns-then-not-tried : goal.returns-then-not-tried
returns-then-not-tried c =
    laying_falls c.loop-i.invariant c.requires.named c.loop-i-test.true _ (same_numbers c.named-own.ensures) _ _ _ c.behind-tried.ensures c.if-i-eq0.true (not-true _ c.if-not-tried.true)

pub loop-i-preserved : goal.loop-i-preserved
loop-i-preserved c =
    let long = c.behind-tried.auto in
    laying_more c.loop-i.invariant c.requires.named c.loop-i-test.true _ (same_numbers c.named-own.ensures) _ _ _ c.behind-tried.ensures
    (elim c.else-i-eq0.branch [ else-i-eq0-via-then-i-eq0+else-not-tried w ↦ λ z. not-false _ w.if-not-tried.false | else-i-eq0-via-else-i-eq0 w ↦ λ z. absurd (w.if-i-eq0.false z) ])
    long.out long.records

pub returns : goal.returns
returns c = laying_all c.loop-i.invariant c.loop-i-test.false
