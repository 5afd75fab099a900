-- `area::area_two` meets its contract.
use Rattle.std.proofs.Common.{w64, sym, ◌∙◌, to_z-of_z}
use Rattle.std.proofs.lemmas.Result.{err_from_is_err_and}
use borrow.Author.Rules.{sfits_of}
use Rattle.area.proofs.AnswerLaws.{doubled_refused, doubled_done}
use Rattle.area.proofs.area_two.Goals as goal

pub returns-in_err-check : goal.returns-in_err-check
returns-in_err-check c =
    let p = err_from_is_err_and c.from_residual.result c.from_residual.ensures.1 in
    rw (p.1, p.2) (doubled_refused _ _ c.in_err-check.ensures)

pub returns : goal.returns
returns c = doubled_done _ (sym c.in_ok-check.ensures) _ (to_z-of_z {w = w64} (sfits_of c.doubled_area.type_inv) ∙ c.doubled_area.ensures)
