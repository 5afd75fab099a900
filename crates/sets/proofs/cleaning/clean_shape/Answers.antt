-- `sets::cleaning::clean_shape` meets its contract: it refuses, or cuts the scratch to its length and hands all on.
use Rattle.std.proofs.lemmas.Result.{err_from_is_err_and}
use Rattle.replies.proofs.RefusalLaws.{refused_so_far}
use Rattle.std.proofs.Common.{◌≡◌, ℕ, List, ℤ, [], sym, arith, length-take-le}
use Rattle.replies.specs.Ladder.{first_of}
use Rattle.grid.specs.Domain.{count}
use Rattle.sets.specs.Outcome.{Lent, lent}
use Rattle.sets.specs.inside.Contour.{Scratch}
use Rattle.sets.proofs.CleanLaws.{contours_sound, shape_rungs, shape_first, scratch_fits, shape_going, shape_refused, shape_is_done}
use Rattle.sets.proofs.cleaning.clean_shape.Goals as goal

-- what is not refused has scratch
fits : (p : List ℤ) (cs : List (List ℕ)) (l : Lent) → 0 ≡ first_of (shape_rungs p cs l) → Scratch (count p) l.next l.prev l.mark
fits p cs l e = scratch_fits p cs [] (contours_sound p cs l) l (sym e)

pub returns-in_err-check : goal.returns-in_err-check
returns-in_err-check c =
    let s = c.args in
    let p = err_from_is_err_and c.from_residual.result c.from_residual.ensures.1 in
    rw (p.1, p.2) (shape_refused s.points.now s.ranges.now (lent s.next.now s.prev.now s.mark.now s.out.now s.records.now []) s.rule _ (refused_so_far _ _ _ c.in_err-check.ensures))

pub returns-in_err-rows : goal.returns-in_err-rows
returns-in_err-rows c =
    let s = c.args in
    let p = err_from_is_err_and c.from_residual-in_err-rows.result c.from_residual-in_err-rows.ensures.1 in
    rw (p.1, p.2) (shape_refused s.points.now s.ranges.now (lent s.next.now s.prev.now s.mark.now s.out.now s.records.now []) s.rule _ (shape_first s.points.now s.ranges.now (lent s.next.now s.prev.now s.mark.now s.out.now s.records.now []) c.in_ok-check.ensures c.in_err-rows.ensures))

pub slice_bounds-sweep_shape-end : goal.slice_bounds-sweep_shape-end
slice_bounds-sweep_shape-end c =
    let s = c.args in
    (fits s.points.now s.ranges.now (lent s.next.now s.prev.now s.mark.now s.out.now s.records.now []) (shape_first s.points.now s.ranges.now (lent s.next.now s.prev.now s.mark.now s.out.now s.records.now []) c.in_ok-check.ensures c.in_ok-rows.ensures)).in_next

pub slice_bounds-sweep_shape-end-2 : goal.slice_bounds-sweep_shape-end-2
slice_bounds-sweep_shape-end-2 c =
    let s = c.args in
    sym (length-take-le _ _ (fits s.points.now s.ranges.now (lent s.next.now s.prev.now s.mark.now s.out.now s.records.now []) (shape_first s.points.now s.ranges.now (lent s.next.now s.prev.now s.mark.now s.out.now s.records.now []) c.in_ok-check.ensures c.in_ok-rows.ensures)).in_next)

pub slice_bounds-sweep_shape-end-3 : goal.slice_bounds-sweep_shape-end-3
slice_bounds-sweep_shape-end-3 c =
    let s = c.args in
    (fits s.points.now s.ranges.now (lent s.next.now s.prev.now s.mark.now s.out.now s.records.now []) (shape_first s.points.now s.ranges.now (lent s.next.now s.prev.now s.mark.now s.out.now s.records.now []) c.in_ok-check.ensures c.in_ok-rows.ensures)).in_prev

pub slice_bounds-sweep_shape-end-4 : goal.slice_bounds-sweep_shape-end-4
slice_bounds-sweep_shape-end-4 c =
    let s = c.args in
    sym (length-take-le _ _ (fits s.points.now s.ranges.now (lent s.next.now s.prev.now s.mark.now s.out.now s.records.now []) (shape_first s.points.now s.ranges.now (lent s.next.now s.prev.now s.mark.now s.out.now s.records.now []) c.in_ok-check.ensures c.in_ok-rows.ensures)).in_prev)

pub slice_bounds-sweep_shape-end-5 : goal.slice_bounds-sweep_shape-end-5
slice_bounds-sweep_shape-end-5 c =
    let s = c.args in
    (fits s.points.now s.ranges.now (lent s.next.now s.prev.now s.mark.now s.out.now s.records.now []) (shape_first s.points.now s.ranges.now (lent s.next.now s.prev.now s.mark.now s.out.now s.records.now []) c.in_ok-check.ensures c.in_ok-rows.ensures)).in_mark

pub slice_bounds-sweep_shape-end-6 : goal.slice_bounds-sweep_shape-end-6
slice_bounds-sweep_shape-end-6 c =
    let s = c.args in
    sym (length-take-le _ _ (fits s.points.now s.ranges.now (lent s.next.now s.prev.now s.mark.now s.out.now s.records.now []) (shape_first s.points.now s.ranges.now (lent s.next.now s.prev.now s.mark.now s.out.now s.records.now []) c.in_ok-check.ensures c.in_ok-rows.ensures)).in_mark)

pub sweep_shape-tried-requires : goal.sweep_shape-tried-requires
sweep_shape-tried-requires c =
    let s = c.args in
    shape_going s.points.now s.ranges.now (lent s.next.now s.prev.now s.mark.now s.out.now s.records.now []) (sym (shape_first s.points.now s.ranges.now (lent s.next.now s.prev.now s.mark.now s.out.now s.records.now []) c.in_ok-check.ensures c.in_ok-rows.ensures)) (omega arith)

pub returns : goal.returns
returns c =
    let s = c.args in
    shape_is_done s.points.now s.ranges.now (lent s.next.now s.prev.now s.mark.now s.out.now s.records.now []) (sym (shape_first s.points.now s.ranges.now (lent s.next.now s.prev.now s.mark.now s.out.now s.records.now []) c.in_ok-check.ensures c.in_ok-rows.ensures)) (omega arith) s.rule c.sweep_shape-tried.result _ _ _ _ _ c.sweep_shape-tried.ensures.records_after c.sweep_shape-tried.ensures.zeroed _ c.shape_answer.ensures
