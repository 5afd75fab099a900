-- `buffer::shapes::set_with_contour` meets its contract.
use Rattle.std.proofs.lemmas.Result.{err_from_is_err_and}
use mathlib.Core.Path.{refl, ◌∙◌}
use mathlib.Core.List.{[], ◌∷◌}
use native.Mathlib.Omega.{arith}
use Rattle.grid.specs.Limits.{limit}
use Rattle.grid.specs.Domain.{domain}
use Rattle.buffer.specs.Spans.{spans}
use Rattle.buffer.specs.Sets.{whole, every}
use Rattle.buffer.specs.Contours as C
use Rattle.buffer.specs.Shapes as S
use Rattle.buffer.proofs.SpanLaws.{one_movable}
use Rattle.buffer.proofs.AnswerLaws.{stored_not, stored_clear}
use Rattle.buffer.proofs.PackLaws.{shape_movable, contours_movable, shapes_movable}
use Rattle.buffer.proofs.shapes.set_with_contour.Goals as goal

pub returns-in_err-domain : goal.returns-in_err-domain
returns-in_err-domain c =
    let p = err_from_is_err_and c.from_residual.result c.from_residual.ensures.1 in
    rw (p.1, p.2) (stored_not _ _ _ _ _ _ _ _ c.in_err-domain.ensures)

pub shapes-requires : goal.shapes-requires
shapes-requires c = (one_movable _ 0 (omega arith), one_movable 1 0 (omega arith))

pub returns : goal.returns
returns c =
    let s = c.args in
    c.shapes.ensures
    ∙ stored_clear s.contour.now (whole s.contour.now ∷ []) (every (whole s.contour.now ∷ []) ∷ []) s.out.now s.records.now s.groups.now (domain limit s.contour.now) tt c.in_ok-domain.ensures
