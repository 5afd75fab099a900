-- `report::inner::listing::accept` meets its contract.
use Rattle.std.proofs.lemmas.Result.{err_from_is_err_and}
use Rattle.std.proofs.Common.{refl}
use Rattle.replies.proofs.RefusalLaws.{refused_so_far}
use Rattle.setfile.specs.Reading.{refusals}
use Rattle.report.proofs.ReportLaws.{too_many, few_enough, listable}
use Rattle.report.proofs.inner.listing.accept.Goals as goal

pub returns-in_err-file-clause-refusal : goal.returns-in_err-file-clause-refusal
returns-in_err-file-clause-refusal c =
    let p = err_from_is_err_and c.from_residual.result c.from_residual.ensures.1 in
    rw (p.1, p.2) (refused_so_far (refusals c.args.bytes.now) _ _ c.in_err-file.ensures.reply)

pub returns-then-file-gt-POINTS-clause-refusal : goal.returns-then-file-gt-POINTS-clause-refusal
returns-then-file-gt-POINTS-clause-refusal c = too_many c.in_ok-file.ensures refl c.if-file-gt-POINTS.true

pub returns-clause-refusal : goal.returns-clause-refusal
returns-clause-refusal c = few_enough c.in_ok-file.ensures refl c.if-file-gt-POINTS.false

pub returns-clause-listable : goal.returns-clause-listable
returns-clause-listable c =
    (listable c.in_ok-file.ensures refl c.if-file-gt-POINTS.false, (c.in_ok-file.ensures.counts refl).points)
