-- `sets::inner::lacking::rows` meets its contract.
use Rattle.std.proofs.lemmas.Result.{err_from_is_err_and}
use Rattle.replies.proofs.RefusalLaws.{refused_so_far, no_room, roomy}
use Rattle.sets.proofs.inner.lacking.rows.Goals as goal

pub returns-in_err-scratch : goal.returns-in_err-scratch
returns-in_err-scratch c =
    let p = err_from_is_err_and c.from_residual.result c.from_residual.ensures.1 in
    rw (p.1, p.2) (refused_so_far _ _ _ c.in_err-scratch.ensures)

pub returns-then-not-room : goal.returns-then-not-room
returns-then-not-room c = no_room _ tt c.in_ok-scratch.ensures _ c.if-not-room.true

pub returns : goal.returns
returns c = roomy _ tt c.in_ok-scratch.ensures _ c.if-not-room.false
