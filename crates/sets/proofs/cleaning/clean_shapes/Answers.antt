-- `sets::cleaning::clean_shapes` meets its contract: it refuses, or cuts the scratch to its length and hands all on.
use Rattle.std.proofs.lemmas.Result.{err_from_is_err_and}
use Rattle.replies.proofs.RefusalLaws.{refused_so_far}
use Rattle.std.proofs.Common.{◌≡◌, ℕ, List, ℤ, sym, arith, length-take-le}
use Rattle.replies.specs.Ladder.{first_of}
use Rattle.grid.specs.Domain.{count}
use Rattle.sets.specs.Outcome.{Lent, lent}
use Rattle.sets.specs.inside.Contour.{Scratch}
use Rattle.sets.proofs.CleanLaws.{both_sound, shapes_rungs, shapes_first, scratch_fits, shapes_each, shapes_refused, shapes_are_kept}
use Rattle.sets.proofs.cleaning.clean_shapes.Goals as goal

-- what is not refused has scratch
fits : (p : List ℤ) (cs ss : List (List ℕ)) (l : Lent) → 0 ≡ first_of (shapes_rungs p cs ss l) → Scratch (count p) l.next l.prev l.mark
fits p cs ss l e = scratch_fits p cs ss (both_sound p cs ss l) l (sym e)

pub returns-in_err-check : goal.returns-in_err-check
returns-in_err-check c =
    let s = c.args in
    let p = err_from_is_err_and c.from_residual.result c.from_residual.ensures.1 in
    rw (p.1, p.2) (shapes_refused s.points.now s.contours.now s.shapes.now (lent s.next.now s.prev.now s.mark.now s.out.now s.records.now s.groups.now) s.rule _ (refused_so_far _ _ _ c.in_err-check.ensures))

pub returns-in_err-rows : goal.returns-in_err-rows
returns-in_err-rows c =
    let s = c.args in
    let p = err_from_is_err_and c.from_residual-in_err-rows.result c.from_residual-in_err-rows.ensures.1 in
    rw (p.1, p.2) (shapes_refused s.points.now s.contours.now s.shapes.now (lent s.next.now s.prev.now s.mark.now s.out.now s.records.now s.groups.now) s.rule _ (shapes_first s.points.now s.contours.now s.shapes.now (lent s.next.now s.prev.now s.mark.now s.out.now s.records.now s.groups.now) c.in_ok-check.ensures c.in_err-rows.ensures))

pub slice_bounds-sweep_shapes-end : goal.slice_bounds-sweep_shapes-end
slice_bounds-sweep_shapes-end c =
    let s = c.args in
    (fits s.points.now s.contours.now s.shapes.now (lent s.next.now s.prev.now s.mark.now s.out.now s.records.now s.groups.now) (shapes_first s.points.now s.contours.now s.shapes.now (lent s.next.now s.prev.now s.mark.now s.out.now s.records.now s.groups.now) c.in_ok-check.ensures c.in_ok-rows.ensures)).in_next

pub slice_bounds-sweep_shapes-end-2 : goal.slice_bounds-sweep_shapes-end-2
slice_bounds-sweep_shapes-end-2 c =
    let s = c.args in
    sym (length-take-le _ _ (fits s.points.now s.contours.now s.shapes.now (lent s.next.now s.prev.now s.mark.now s.out.now s.records.now s.groups.now) (shapes_first s.points.now s.contours.now s.shapes.now (lent s.next.now s.prev.now s.mark.now s.out.now s.records.now s.groups.now) c.in_ok-check.ensures c.in_ok-rows.ensures)).in_next)

pub slice_bounds-sweep_shapes-end-3 : goal.slice_bounds-sweep_shapes-end-3
slice_bounds-sweep_shapes-end-3 c =
    let s = c.args in
    (fits s.points.now s.contours.now s.shapes.now (lent s.next.now s.prev.now s.mark.now s.out.now s.records.now s.groups.now) (shapes_first s.points.now s.contours.now s.shapes.now (lent s.next.now s.prev.now s.mark.now s.out.now s.records.now s.groups.now) c.in_ok-check.ensures c.in_ok-rows.ensures)).in_prev

pub slice_bounds-sweep_shapes-end-4 : goal.slice_bounds-sweep_shapes-end-4
slice_bounds-sweep_shapes-end-4 c =
    let s = c.args in
    sym (length-take-le _ _ (fits s.points.now s.contours.now s.shapes.now (lent s.next.now s.prev.now s.mark.now s.out.now s.records.now s.groups.now) (shapes_first s.points.now s.contours.now s.shapes.now (lent s.next.now s.prev.now s.mark.now s.out.now s.records.now s.groups.now) c.in_ok-check.ensures c.in_ok-rows.ensures)).in_prev)

pub slice_bounds-sweep_shapes-end-5 : goal.slice_bounds-sweep_shapes-end-5
slice_bounds-sweep_shapes-end-5 c =
    let s = c.args in
    (fits s.points.now s.contours.now s.shapes.now (lent s.next.now s.prev.now s.mark.now s.out.now s.records.now s.groups.now) (shapes_first s.points.now s.contours.now s.shapes.now (lent s.next.now s.prev.now s.mark.now s.out.now s.records.now s.groups.now) c.in_ok-check.ensures c.in_ok-rows.ensures)).in_mark

pub slice_bounds-sweep_shapes-end-6 : goal.slice_bounds-sweep_shapes-end-6
slice_bounds-sweep_shapes-end-6 c =
    let s = c.args in
    sym (length-take-le _ _ (fits s.points.now s.contours.now s.shapes.now (lent s.next.now s.prev.now s.mark.now s.out.now s.records.now s.groups.now) (shapes_first s.points.now s.contours.now s.shapes.now (lent s.next.now s.prev.now s.mark.now s.out.now s.records.now s.groups.now) c.in_ok-check.ensures c.in_ok-rows.ensures)).in_mark)

pub sweep_shapes-at-requires : goal.sweep_shapes-at-requires
sweep_shapes-at-requires c =
    let s = c.args in
    shapes_each s.points.now s.contours.now s.shapes.now (lent s.next.now s.prev.now s.mark.now s.out.now s.records.now s.groups.now) (sym (shapes_first s.points.now s.contours.now s.shapes.now (lent s.next.now s.prev.now s.mark.now s.out.now s.records.now s.groups.now) c.in_ok-check.ensures c.in_ok-rows.ensures)) (omega arith) (omega arith)

pub returns : goal.returns
returns c =
    let s = c.args in
    shapes_are_kept s.points.now s.contours.now s.shapes.now (lent s.next.now s.prev.now s.mark.now s.out.now s.records.now s.groups.now) (sym (shapes_first s.points.now s.contours.now s.shapes.now (lent s.next.now s.prev.now s.mark.now s.out.now s.records.now s.groups.now) c.in_ok-check.ensures c.in_ok-rows.ensures)) (omega arith) (omega arith) s.rule c.sweep_shapes-at.result _ _ _ _ _ _ c.sweep_shapes-at.ensures.groups_after c.sweep_shapes-at.ensures.zeroed _ c.kept.ensures
