-- `buffer::shapes::contours_in` meets its contract.
use Rattle.std.proofs.lemmas.Result.{err_from_is_err_and}
use Rattle.std.proofs.Common.{refl}
use Rattle.buffer.proofs.PartLaws.{inside_refused, inside_absent, inside_there, shape_within}
use Rattle.buffer.proofs.shapes.contours_in.Goals as goal

pub returns-in_err-check : goal.returns-in_err-check
returns-in_err-check c =
    let p = err_from_is_err_and c.from_residual.result c.from_residual.ensures.1 in
    rw (p.1, p.2) (inside_refused _ _ _ _ _ c.in_err-check.ensures)

pub returns-then-shapes-s : goal.returns-then-shapes-s
returns-then-shapes-s c = inside_absent _ _ _ _ c.in_ok-check.ensures c.if-shapes-s.true

pub overflow_sub-result : goal.overflow_sub-result
overflow_sub-result c =
    let s = c.args in
    (shape_within s.points.now s.contours.now s.shapes.now s.s c.in_ok-check.ensures c.if-shapes-s.false).forward

pub returns : goal.returns
returns c = inside_there _ _ _ _ c.in_ok-check.ensures c.if-shapes-s.false
