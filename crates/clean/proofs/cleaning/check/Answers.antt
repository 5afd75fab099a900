-- `clean::cleaning::check` meets its contract, refusal by refusal.
use Rattle.std.proofs.lemmas.Result.{err_from_is_err_and}
use borrow.Author.Tests.{lt-ltb, le-ltb}
use Rattle.replies.proofs.LadderLaws.{first_is}
use Rattle.replies.proofs.LadderLaws.First.{here, past, foot}
use Rattle.replies.proofs.RefusalLaws.{refused_so_far, asked_further}
use Rattle.clean.proofs.cleaning.check.Goals as goal

pub returns-in_err-domain : goal.returns-in_err-domain
returns-in_err-domain c =
    let p = err_from_is_err_and c.from_residual.result c.from_residual.ensures.1 in
    rw (p.1, p.2) (refused_so_far _ _ _ c.in_err-domain.ensures)

pub returns-in_err-scratch : goal.returns-in_err-scratch
returns-in_err-scratch c =
    let p = err_from_is_err_and c.from_residual-in_err-scratch.result c.from_residual-in_err-scratch.ensures.1 in
    rw (p.1, p.2) (asked_further _ _ tt c.in_ok-domain.ensures (refused_so_far _ _ _ c.in_err-scratch.ensures))

pub returns-then-out-n : goal.returns-then-out-n
returns-then-out-n c =
    asked_further _ _ tt c.in_ok-domain.ensures (asked_further _ _ tt c.in_ok-scratch.ensures (first_is _ _ (here (lt-ltb _ _ c.if-out-n.true))))

pub returns : goal.returns
returns c =
    asked_further _ _ tt c.in_ok-domain.ensures (asked_further _ _ tt c.in_ok-scratch.ensures (first_is _ _ (past (le-ltb _ _ c.if-out-n.false) foot)))
