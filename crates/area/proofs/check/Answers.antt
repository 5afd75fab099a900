-- `area::check` meets its contract, refusal by refusal.
use Rattle.std.proofs.Common.{sym}
use Rattle.std.proofs.lemmas.Result.{err_from_is_err_and}
use Rattle.replies.proofs.RefusalLaws.{refused_so_far}
use Rattle.area.proofs.AnswerLaws.{refused_empty, refused_none}
use Rattle.area.proofs.check.Goals as goal

pub returns-in_err-domain : goal.returns-in_err-domain
returns-in_err-domain c =
    let p = err_from_is_err_and c.from_residual.result c.from_residual.ensures.1 in
    rw (p.1, p.2) (refused_so_far _ _ _ c.in_err-domain.ensures)

pub returns-then-points-eq0 : goal.returns-then-points-eq0
returns-then-points-eq0 c = refused_empty c.args.points.now (sym c.in_ok-domain.ensures) c.if-points-eq0.true

pub returns : goal.returns
returns c = refused_none c.args.points.now (sym c.in_ok-domain.ensures) c.if-points-eq0.false
