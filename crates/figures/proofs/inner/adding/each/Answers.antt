-- `figures::inner::adding::each` meets its contract: the loop has counted the contours before i.
use Rattle.buffer.proofs.PartLaws.{same_numbers}
use Rattle.figures.proofs.CountingLaws.{counting_none, counting_cleanable, counting_joinable, counting_more, counting_all}
use Rattle.figures.proofs.inner.adding.each.Goals as goal

pub loop-i-init : goal.loop-i-init
loop-i-init c = counting_none c.args.rule c.args.points.now c.args.contours.now c.args.out.now _ c.none-all.ensures

pub of_contour-more-requires : goal.of_contour-more-requires
of_contour-more-requires c =
    let long = c.loop-i.auto in
    rw (same_numbers c.named-own.ensures)
    (counting_cleanable c.args.rule c.args.points.now c.args.contours.now c.args.out.now c.requires c.loop-i.invariant c.loop-i-test.true _ _ _ long.next long.prev long.mark long.out)

pub sum-all-requires : goal.sum-all-requires
sum-all-requires c =
    counting_joinable c.args.rule c.args.points.now c.args.contours.now c.args.out.now c.requires c.loop-i.invariant c.loop-i-test.true _ _ _
    (same_numbers c.named-own.ensures) c.of_contour-more.ensures

pub loop-i-preserved : goal.loop-i-preserved
loop-i-preserved c =
    counting_more c.args.rule c.args.points.now c.args.contours.now c.args.out.now c.requires c.loop-i.invariant c.loop-i-test.true _ _ _
    (same_numbers c.named-own.ensures) c.of_contour-more.ensures _ c.sum-all.ensures

pub returns : goal.returns
returns c =
    counting_all c.args.rule c.args.points.now c.args.contours.now c.args.out.now c.requires c.loop-i.invariant c.loop-i-test.false
