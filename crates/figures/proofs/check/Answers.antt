-- `figures::check` meets its contract: a set's refusals, and then what is lacking.
use Rattle.std.proofs.lemmas.Result.{err_from_is_err_and}
use Rattle.replies.proofs.RefusalLaws.{refused_so_far, asked_further}
use Rattle.buffer.specs.Contours.{refusals}
use Rattle.figures.proofs.check.Goals as goal

pub returns-in_err-check : goal.returns-in_err-check
returns-in_err-check c =
    let p = err_from_is_err_and c.from_residual.result c.from_residual.ensures.1 in
    rw (p.1, p.2) (refused_so_far _ _ _ c.in_err-check.ensures)

pub returns : goal.returns
returns c = asked_further (refusals c.args.points.now c.args.contours.now) _ tt c.in_ok-check.ensures c.rows.ensures
