-- `clean::inner::lacking::scratch` meets its contract, row by row.
use borrow.Author.Tests.{lt-ltb, le-ltb}
use Rattle.replies.proofs.LadderLaws.{first_is}
use Rattle.replies.proofs.LadderLaws.First.{here, past, foot}
use Rattle.clean.proofs.inner.lacking.scratch.Goals as goal

pub returns-then-next-n : goal.returns-then-next-n
returns-then-next-n c = first_is _ _ (here (lt-ltb _ _ c.if-next-n.true))

pub returns-then-prev-n : goal.returns-then-prev-n
returns-then-prev-n c = first_is _ _ (past (le-ltb _ _ c.if-next-n.false) (here (lt-ltb _ _ c.if-prev-n.true)))

pub returns-then-mark-n : goal.returns-then-mark-n
returns-then-mark-n c = first_is _ _ (past (le-ltb _ _ c.if-next-n.false) (past (le-ltb _ _ c.if-prev-n.false) (here (lt-ltb _ _ c.if-mark-n.true))))

pub returns : goal.returns
returns c = first_is _ _ (past (le-ltb _ _ c.if-next-n.false) (past (le-ltb _ _ c.if-prev-n.false) (past (le-ltb _ _ c.if-mark-n.false) foot)))
