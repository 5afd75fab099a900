-- `buffer::shapes::is_empty` meets its contract.
use Rattle.std.proofs.lemmas.Result.{err_from_is_err_and}
use Rattle.std.proofs.Common.{sym, refl}
use Rattle.replies.proofs.VerdictLaws.{verdict_refused, verdict_given}
use Rattle.replies.proofs.RefusalLaws.{refusals_have_numbers}
use Rattle.buffer.specs.Shapes.{is_empty}
use Rattle.buffer.proofs.shapes.is_empty.Goals as goal

pub returns-in_err-check : goal.returns-in_err-check
unfolding is_empty
returns-in_err-check c =
    let p = err_from_is_err_and c.from_residual.result c.from_residual.ensures.1 in
    rw (p.1, p.2) (verdict_refused _ _ _ c.in_err-check.ensures (refusals_have_numbers _))

pub returns : goal.returns
unfolding is_empty
returns c = verdict_given _ _ _ (sym c.in_ok-check.ensures) refl
