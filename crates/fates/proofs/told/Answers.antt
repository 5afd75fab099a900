-- `fates::told` meets its contract: it refuses, or cuts the rows to their lengths and hands all on.
use Rattle.std.proofs.lemmas.Result.{err_from_is_err_and}
use Rattle.replies.proofs.RefusalLaws.{refused_so_far}
use mathlib.Core.Path.{sym}
use lib.Seq.{length-take-le}
use Rattle.fates.specs.Outcome.{lent}
use Rattle.fates.proofs.OutcomeLaws.{first_refusal, refused, scratch_fits, fates_fit, each_tellable, all_told}
use Rattle.fates.proofs.told.Goals as goal

pub returns-in_err-check : goal.returns-in_err-check
returns-in_err-check c =
    let s = c.args in
    let p = err_from_is_err_and c.from_residual.result c.from_residual.ensures.1 in
    rw (p.1, p.2) (refused s.points.now s.contours.now s.shapes.now (lent s.next.now s.prev.now s.mark.now s.fates.now) s.rule _ (refused_so_far _ _ _ c.in_err-check.ensures))

pub returns-in_err-rows : goal.returns-in_err-rows
returns-in_err-rows c =
    let s = c.args in
    let p = err_from_is_err_and c.from_residual-in_err-rows.result c.from_residual-in_err-rows.ensures.1 in
    rw (p.1, p.2) (refused s.points.now s.contours.now s.shapes.now (lent s.next.now s.prev.now s.mark.now s.fates.now) s.rule _ (first_refusal s.points.now s.contours.now s.shapes.now (lent s.next.now s.prev.now s.mark.now s.fates.now) c.in_ok-check.ensures c.in_err-rows.ensures))

pub slice_bounds-sweep-end : goal.slice_bounds-sweep-end
slice_bounds-sweep-end c =
    let s = c.args in
    (scratch_fits s.points.now s.contours.now s.shapes.now (lent s.next.now s.prev.now s.mark.now s.fates.now) (sym (first_refusal s.points.now s.contours.now s.shapes.now (lent s.next.now s.prev.now s.mark.now s.fates.now) c.in_ok-check.ensures c.in_ok-rows.ensures))).in_next

pub slice_bounds-sweep-end-2 : goal.slice_bounds-sweep-end-2
slice_bounds-sweep-end-2 c =
    let s = c.args in
    sym (length-take-le _ _ ((scratch_fits s.points.now s.contours.now s.shapes.now (lent s.next.now s.prev.now s.mark.now s.fates.now) (sym (first_refusal s.points.now s.contours.now s.shapes.now (lent s.next.now s.prev.now s.mark.now s.fates.now) c.in_ok-check.ensures c.in_ok-rows.ensures))).in_next))

pub slice_bounds-sweep-end-3 : goal.slice_bounds-sweep-end-3
slice_bounds-sweep-end-3 c =
    let s = c.args in
    (scratch_fits s.points.now s.contours.now s.shapes.now (lent s.next.now s.prev.now s.mark.now s.fates.now) (sym (first_refusal s.points.now s.contours.now s.shapes.now (lent s.next.now s.prev.now s.mark.now s.fates.now) c.in_ok-check.ensures c.in_ok-rows.ensures))).in_prev

pub slice_bounds-sweep-end-4 : goal.slice_bounds-sweep-end-4
slice_bounds-sweep-end-4 c =
    let s = c.args in
    sym (length-take-le _ _ ((scratch_fits s.points.now s.contours.now s.shapes.now (lent s.next.now s.prev.now s.mark.now s.fates.now) (sym (first_refusal s.points.now s.contours.now s.shapes.now (lent s.next.now s.prev.now s.mark.now s.fates.now) c.in_ok-check.ensures c.in_ok-rows.ensures))).in_prev))

pub slice_bounds-sweep-end-5 : goal.slice_bounds-sweep-end-5
slice_bounds-sweep-end-5 c =
    let s = c.args in
    (scratch_fits s.points.now s.contours.now s.shapes.now (lent s.next.now s.prev.now s.mark.now s.fates.now) (sym (first_refusal s.points.now s.contours.now s.shapes.now (lent s.next.now s.prev.now s.mark.now s.fates.now) c.in_ok-check.ensures c.in_ok-rows.ensures))).in_mark

pub slice_bounds-sweep-end-6 : goal.slice_bounds-sweep-end-6
slice_bounds-sweep-end-6 c =
    let s = c.args in
    sym (length-take-le _ _ ((scratch_fits s.points.now s.contours.now s.shapes.now (lent s.next.now s.prev.now s.mark.now s.fates.now) (sym (first_refusal s.points.now s.contours.now s.shapes.now (lent s.next.now s.prev.now s.mark.now s.fates.now) c.in_ok-check.ensures c.in_ok-rows.ensures))).in_mark))

pub slice_bounds-sweep-end-7 : goal.slice_bounds-sweep-end-7
slice_bounds-sweep-end-7 c =
    let s = c.args in
    (fates_fit s.points.now s.contours.now s.shapes.now (lent s.next.now s.prev.now s.mark.now s.fates.now) (sym (first_refusal s.points.now s.contours.now s.shapes.now (lent s.next.now s.prev.now s.mark.now s.fates.now) c.in_ok-check.ensures c.in_ok-rows.ensures)))

pub slice_bounds-sweep-end-8 : goal.slice_bounds-sweep-end-8
slice_bounds-sweep-end-8 c =
    let s = c.args in
    sym (length-take-le _ _ (fates_fit s.points.now s.contours.now s.shapes.now (lent s.next.now s.prev.now s.mark.now s.fates.now) (sym (first_refusal s.points.now s.contours.now s.shapes.now (lent s.next.now s.prev.now s.mark.now s.fates.now) c.in_ok-check.ensures c.in_ok-rows.ensures))))

pub sweep-requires : goal.sweep-requires
sweep-requires c =
    let s = c.args in
    each_tellable s.points.now s.contours.now s.shapes.now (lent s.next.now s.prev.now s.mark.now s.fates.now) (sym (first_refusal s.points.now s.contours.now s.shapes.now (lent s.next.now s.prev.now s.mark.now s.fates.now) c.in_ok-check.ensures c.in_ok-rows.ensures))

pub returns : goal.returns
returns c =
    let s = c.args in
    all_told s.points.now s.contours.now s.shapes.now (lent s.next.now s.prev.now s.mark.now s.fates.now) (sym (first_refusal s.points.now s.contours.now s.shapes.now (lent s.next.now s.prev.now s.mark.now s.fates.now) c.in_ok-check.ensures c.in_ok-rows.ensures)) s.rule _ _ _ _
    c.sweep.ensures.fates_after c.sweep.auto.fates c.sweep.ensures.zeroed _ c.sweep.ensures.value
