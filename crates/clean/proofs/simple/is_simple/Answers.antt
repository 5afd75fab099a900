-- `clean::simple::is_simple` meets its contract.
use Rattle.std.proofs.lemmas.Result.{err_from_is_err_and}
use Rattle.std.proofs.Common.{sym}
use Rattle.replies.proofs.RefusalLaws.{refusals_have_numbers}
use Rattle.replies.proofs.VerdictLaws.{verdict_refused, verdict_given}
use Rattle.clean.specs.Verdicts.{simple}
use Rattle.clean.proofs.simple.is_simple.Goals as goal

pub returns-in_err-domain : goal.returns-in_err-domain
unfolding simple
returns-in_err-domain c =
    let p = err_from_is_err_and c.from_residual.result c.from_residual.ensures.1 in
    rw (p.1, p.2) (verdict_refused _ _ _ c.in_err-domain.ensures (refusals_have_numbers _))

pub passes-requires : goal.passes-requires
passes-requires c = sym c.in_ok-domain.ensures

pub returns : goal.returns
unfolding simple
returns c = verdict_given _ _ _ (sym c.in_ok-domain.ensures) c.passes.ensures
