-- `buffer::inner::refusing::of_set` meets its contract, refusal by refusal.
use Rattle.std.proofs.lemmas.Result.{err_from_is_err_and}
use Rattle.std.proofs.Common.{not, ap}
use Rattle.replies.proofs.RefusalLaws.{refused_so_far, asked_further}
use Rattle.buffer.proofs.RefusalLaws.{unsound_held, unsound_past}
use Rattle.buffer.proofs.inner.refusing.of_set.Goals as goal

pub returns-in_err-size : goal.returns-in_err-size
returns-in_err-size c =
    let p = err_from_is_err_and c.from_residual.result c.from_residual.ensures.1 in
    rw (p.1, p.2) (refused_so_far _ _ _ c.in_err-size.ensures)

pub returns-then-not-sound : goal.returns-then-not-sound
returns-then-not-sound c = asked_further _ _ tt c.in_ok-size.ensures (unsound_held _ _ (ap not c.if-not-sound.true))

pub returns : goal.returns
returns c = asked_further _ _ tt c.in_ok-size.ensures (unsound_past _ _ (ap not c.if-not-sound.false) c.within.ensures)
