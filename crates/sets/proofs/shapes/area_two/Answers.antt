-- `sets::shapes::area_two` meets its contract.
use Rattle.std.proofs.lemmas.Result.{err_from_is_err_and}
use Rattle.std.proofs.Common.{sym, ◌∙◌}
use Rattle.sets.proofs.RefusalLaws.{contours_taken}
use Rattle.sets.proofs.AreaLaws.{set_refused, set_taken}
use Rattle.sets.proofs.shapes.area_two.Goals as goal

pub returns-in_err-check : goal.returns-in_err-check
returns-in_err-check c =
    let p = err_from_is_err_and c.from_residual.result c.from_residual.ensures.1 in
    rw (p.1, p.2) (set_refused _ _ _ c.in_err-check.ensures)

pub total-requires : goal.total-requires
total-requires c = contours_taken _ _ _ (sym c.in_ok-check.ensures)

pub returns : goal.returns
returns c = c.total.ensures ∙ set_taken _ _ tt c.in_ok-check.ensures
