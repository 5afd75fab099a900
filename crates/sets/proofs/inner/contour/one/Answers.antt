-- `sets::inner::contour::one` meets its contract: too few points, copied, or walked.
use Rattle.std.proofs.Common.{sym, length-take-le}
use Rattle.clean.proofs.LookLaws.{failing_goes}
use Rattle.sets.proofs.FateLaws.{fated_few, fated_copied, fated_walked}
use Rattle.sets.proofs.BehindLaws.{ready}
use Rattle.sets.proofs.inner.contour.one.Goals as goal

pub returns-then-n-lt3 : goal.returns-then-n-lt3
returns-then-n-lt3 c = fated_few c.args.rule _ _ c.requires.contour c.if-n-lt3.true

pub returns-then-look : goal.returns-then-look
returns-then-look c =
    fated_copied _ _ _ _ c.look_over-look.ensures.verdict c.if-look.true _ c.copy.ensures

pub slice_bounds-settle_from-end-2 : goal.slice_bounds-settle_from-end-2
slice_bounds-settle_from-end-2 c = sym (length-take-le _ _ c.requires.scratch.in_next)

pub slice_bounds-settle_from-end-4 : goal.slice_bounds-settle_from-end-4
slice_bounds-settle_from-end-4 c = sym (length-take-le _ _ c.requires.scratch.in_prev)

pub slice_bounds-settle_from-end-6 : goal.slice_bounds-settle_from-end-6
slice_bounds-settle_from-end-6 c = sym (length-take-le _ _ c.requires.scratch.in_mark)

pub settle_from-requires : goal.settle_from-requires
settle_from-requires c =
    let long = length-take-le _ c.args.mark.now c.requires.scratch.in_mark in
    let many = c.if-n-lt3.false in
    let over = c.look_over-look.ensures in
    record {
      ready = (ready _ _ _ _ _ c.requires, rw long many);
      standing_in_bounds = (rw long (failing_goes c.args.contour.now c.requires.contour c.args.rule many _ over c.if-look.false), rw long over.standing.stand);
    }

pub returns : goal.returns
returns c =
    fated_walked _ _ _ _ c.look_over-look.ensures.verdict c.if-look.false _ _ c.settle_from.ensures
