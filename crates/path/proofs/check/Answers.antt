-- `path::check` meets its contract, refusal by refusal.
use Rattle.std.proofs.Common.{sym, ◌∙◌}
use Rattle.std.proofs.lemmas.Result.{err_from_is_err_and}
use Rattle.replies.proofs.RefusalLaws.{refused_so_far}
use Rattle.path.proofs.ContainsLaws.{refused_off, refused_none}
use Rattle.path.proofs.check.Goals as goal

pub returns-in_err-domain : goal.returns-in_err-domain
returns-in_err-domain c =
    let p = err_from_is_err_and c.from_residual.result c.from_residual.ensures.1 in
    rw (p.1, p.2) (refused_so_far _ _ _ c.in_err-domain.ensures)

pub returns-then-not-point_on_grid : goal.returns-then-not-point_on_grid
returns-then-not-point_on_grid c =
    refused_off _ _ (sym c.in_ok-domain.ensures) (sym c.point_on_grid.ensures ∙ c.if-not-point_on_grid.true)

pub returns : goal.returns
returns c = refused_none _ _ (sym c.in_ok-domain.ensures) (sym c.point_on_grid.ensures ∙ c.if-not-point_on_grid.false)
