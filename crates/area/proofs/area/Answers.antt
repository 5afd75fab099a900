-- `area::area` meets its contract.
use Rattle.std.proofs.Common.{sym, arith, to_z-of_z, w64, SFits}
use Rattle.std.proofs.lemmas.Result.{err_from_is_err_and}
use borrow.Author.Rules.{sfits_of}
use Rattle.area.proofs.AnswerLaws.{doubled_refused, doubled_done, half_of, half_fits}
use Rattle.area.proofs.area.Goals as goal

-- the doubled area is an i64
value_fits : (c : goal.After-doubled_area) → SFits w64 c.doubled_area.result
value_fits c = sfits_of c.doubled_area.type_inv

pub returns-in_err-check : goal.returns-in_err-check
returns-in_err-check c =
    let p = err_from_is_err_and c.from_residual.result c.from_residual.ensures.1 in
    rw (p.1, p.2) (half_of _ _ (doubled_refused _ _ c.in_err-check.ensures))

pub nonzero_div-result : goal.nonzero_div-result
nonzero_div-result c = (omega arith, rw (to_z-of_z (value_fits c)) (half_fits _ (value_fits c)))

pub returns : goal.returns
returns c =
    rw (to_z-of_z (value_fits c), to_z-of_z (half_fits _ (value_fits c)))
    (half_of _ _ (doubled_done _ (sym c.in_ok-check.ensures) _ c.doubled_area.ensures))
