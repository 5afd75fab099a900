-- `grid::inner::bounds::domain` meets its contract: a ladder behind a ladder.
use Rattle.std.proofs.lemmas.Result.{err_from_is_err_and}
use Rattle.std.proofs.Common.{sym, ◌∙◌}
use Rattle.replies.proofs.RefusalLaws.{refused_so_far, asked_further}
use Rattle.grid.proofs.inner.bounds.domain.Goals as goal

pub returns-in_err-size : goal.returns-in_err-size
returns-in_err-size c =
    let p = err_from_is_err_and c.from_residual.result c.from_residual.ensures.1 in
    rw (p.1, p.2) (refused_so_far _ _ _ c.in_err-size.ensures)

pub returns : goal.returns
returns c = asked_further _ _ tt c.in_ok-size.ensures c.within.ensures
