-- `buffer::contours::points_count` meets its contract.
use Rattle.std.proofs.lemmas.Result.{err_from_is_err_and}
use Rattle.std.proofs.Common.{sym, refl}
use Rattle.buffer.proofs.AnswerLaws.{count_refused, count_given}
use Rattle.buffer.specs.Contours.{points_count}
use Rattle.buffer.proofs.contours.points_count.Goals as goal

pub returns-in_err-check : goal.returns-in_err-check
unfolding points_count
returns-in_err-check c =
    let p = err_from_is_err_and c.from_residual.result c.from_residual.ensures.1 in
    rw (p.1, p.2) (count_refused _ _ _ c.in_err-check.ensures)

pub returns : goal.returns
unfolding points_count
returns c = count_given _ _ c.in_ok-check.ensures
