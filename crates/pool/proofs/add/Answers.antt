-- `pool::add` meets its contract.
use Rattle.std.proofs.lemmas.Result.{err_from_is_err_and}
use mathlib.Core.Path.{refl, sym, ◌∙◌, ap}
use native.Mathlib.Omega.{arith}
use lib.ListN.{length-map}
use Rattle.replies.proofs.RefusalLaws.{refusals_have_numbers}
use Rattle.pool.specs.Rows.{slot}
use Rattle.pool.specs.Outcome.{leaving}
use Rattle.pool.proofs.CallLaws.{added_there, grown_not}
use Rattle.pool.proofs.add.Goals as goal

pub returns-in_err-add_surveyed : goal.returns-in_err-add_surveyed
returns-in_err-add_surveyed c =
    let e = c.add_surveyed in
    let p = err_from_is_err_and c.from_residual.result c.from_residual.ensures.1 in
    rw (p.1, p.2) (ap (leaving _ e.new.points e.new.records) (sym (grown_not _ c.args.contours.now (refusals_have_numbers _))) ∙ c.in_err-add_surveyed.ensures)

pub overflow_add-contours : goal.overflow_add-contours
overflow_add-contours c =
    let h = added_there _ _ _ _ 0 _ c.in_ok-add_surveyed.ensures refl in
    let k = length-map c.args.records.now slot in
    record { fits = omega (arith, h, k, c.well_formed.1.0.1) }

pub returns : goal.returns
returns c = c.in_ok-add_surveyed.ensures
