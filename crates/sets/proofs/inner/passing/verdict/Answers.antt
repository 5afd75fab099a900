-- `sets::inner::passing::verdict` meets its contract.
use Rattle.std.proofs.lemmas.Result.{err_from_is_err_and}
use Rattle.std.proofs.Common.{sym}
use Rattle.replies.proofs.RefusalLaws.{refusals_have_numbers}
use Rattle.replies.proofs.VerdictLaws.{verdict_refused, verdict_given}
use Rattle.sets.specs.Verdicts.{verdict_by}
use Rattle.sets.proofs.inner.passing.verdict.Goals as goal

pub returns-in_err-check : goal.returns-in_err-check
unfolding verdict_by
returns-in_err-check c =
    let p = err_from_is_err_and c.from_residual.result c.from_residual.ensures.1 in
    rw (p.1, p.2) (verdict_refused _ _ _ c.in_err-check.ensures (refusals_have_numbers _))

pub all_pass-requires : goal.all_pass-requires
all_pass-requires c = sym c.in_ok-check.ensures

pub returns : goal.returns
unfolding verdict_by
returns c = verdict_given _ _ _ (sym c.in_ok-check.ensures) c.all_pass.ensures
