-- `setfile::inner::writing::check_set` meets its contract, refusal by refusal.
use Rattle.std.proofs.lemmas.Result.{err_from_is_err_and}
use Rattle.replies.proofs.RefusalLaws.{refusals_have_numbers}
use Rattle.std.proofs.Common.{refl}
use Rattle.setfile.proofs.RefusedLaws.{refused_set, refused_carry, refused_none}
use Rattle.setfile.proofs.inner.writing.check_set.Goals as goal

pub returns-in_err-shapes : goal.returns-in_err-shapes
returns-in_err-shapes c =
    let s = c.args in
    let p = err_from_is_err_and c.from_residual.result c.from_residual.ensures.1 in
    rw (p.1, p.2) (refused_set s.bound s.points.now s.contours.now s.shapes.now _ c.in_err-shapes.ensures (refusals_have_numbers _))

pub returns-then-contours-over : goal.returns-then-contours-over
returns-then-contours-over c =
    let s = c.args in
    refused_carry s.bound s.points.now s.contours.now s.shapes.now _ c.in_ok-shapes.ensures refl
    _ _ c.some_over-over.ensures c.some_empty-empty.ensures c.if-contours-over.true

pub returns : goal.returns
returns c =
    let s = c.args in
    refused_none s.bound s.points.now s.contours.now s.shapes.now _ c.in_ok-shapes.ensures refl
    _ _ c.some_over-over.ensures c.some_empty-empty.ensures c.if-contours-over.false
