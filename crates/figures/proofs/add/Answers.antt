-- `figures::add` meets its contract: the set is refused and counts once, does not fit, or its contours are counted.
use mathlib.Core.Path.{sym, ◌∙◌}
use lib.Seq.{length-take-le}
use Rattle.clean.specs.Outcome.{lent}
use Rattle.figures.proofs.OutcomeLaws.{added_refused, scratch_fits, added_over, countable, all_joinable, all_added}
use Rattle.figures.proofs.add.Goals as goal

pub returns-in-Err : goal.returns-in-Err
returns-in-Err c =
    let a = c.args in
    added_refused a.points.now a.contours.now (lent a.next.now a.prev.now a.mark.now a.out.now) a.f a.rule _ c.in-Err.ensures _ c.add_refused.ensures

pub returns-then-not-fits : goal.returns-then-not-fits
returns-then-not-fits c =
    let a = c.args in
    let l = lent a.next.now a.prev.now a.mark.now a.out.now in
    let clear = sym c.in_default.ensures in
    added_over a.points.now a.contours.now l clear a.f a.rule (sym c.fits.ensures ∙ c.if-not-fits.true)

pub slice_bounds-sweep-end : goal.slice_bounds-sweep-end
slice_bounds-sweep-end c =
    let a = c.args in
    let l = lent a.next.now a.prev.now a.mark.now a.out.now in
    let clear = sym c.in_default.ensures in
    (scratch_fits a.points.now a.contours.now l clear).in_next

pub slice_bounds-sweep-end-2 : goal.slice_bounds-sweep-end-2
slice_bounds-sweep-end-2 c =
    let a = c.args in
    let l = lent a.next.now a.prev.now a.mark.now a.out.now in
    let clear = sym c.in_default.ensures in
    sym (length-take-le _ _ (scratch_fits a.points.now a.contours.now l clear).in_next)

pub slice_bounds-sweep-end-3 : goal.slice_bounds-sweep-end-3
slice_bounds-sweep-end-3 c =
    let a = c.args in
    let l = lent a.next.now a.prev.now a.mark.now a.out.now in
    let clear = sym c.in_default.ensures in
    (scratch_fits a.points.now a.contours.now l clear).in_prev

pub slice_bounds-sweep-end-4 : goal.slice_bounds-sweep-end-4
slice_bounds-sweep-end-4 c =
    let a = c.args in
    let l = lent a.next.now a.prev.now a.mark.now a.out.now in
    let clear = sym c.in_default.ensures in
    sym (length-take-le _ _ (scratch_fits a.points.now a.contours.now l clear).in_prev)

pub slice_bounds-sweep-end-5 : goal.slice_bounds-sweep-end-5
slice_bounds-sweep-end-5 c =
    let a = c.args in
    let l = lent a.next.now a.prev.now a.mark.now a.out.now in
    let clear = sym c.in_default.ensures in
    (scratch_fits a.points.now a.contours.now l clear).in_mark

pub slice_bounds-sweep-end-6 : goal.slice_bounds-sweep-end-6
slice_bounds-sweep-end-6 c =
    let a = c.args in
    let l = lent a.next.now a.prev.now a.mark.now a.out.now in
    let clear = sym c.in_default.ensures in
    sym (length-take-le _ _ (scratch_fits a.points.now a.contours.now l clear).in_mark)

pub sweep-all-requires : goal.sweep-all-requires
sweep-all-requires c =
    let a = c.args in
    let l = lent a.next.now a.prev.now a.mark.now a.out.now in
    let clear = sym c.in_default.ensures in
    let fit = sym c.fits.ensures ∙ c.if-not-fits.false in
    countable a.points.now a.contours.now l clear a.f a.rule fit

pub sum-requires : goal.sum-requires
sum-requires c =
    let a = c.args in
    let l = lent a.next.now a.prev.now a.mark.now a.out.now in
    let clear = sym c.in_default.ensures in
    let fit = sym c.fits.ensures ∙ c.if-not-fits.false in
    all_joinable a.points.now a.contours.now l clear a.f a.rule fit _ _ c.sweep-all.ensures.counts_all

pub returns : goal.returns
returns c =
    let a = c.args in
    let l = lent a.next.now a.prev.now a.mark.now a.out.now in
    let clear = sym c.in_default.ensures in
    let fit = sym c.fits.ensures ∙ c.if-not-fits.false in
    all_added a.points.now a.contours.now l clear a.f a.rule fit _ _ _ _ _ _ c.sweep-all.ensures.counts_all c.sum.ensures c.sweep-all.ensures.zeroed
