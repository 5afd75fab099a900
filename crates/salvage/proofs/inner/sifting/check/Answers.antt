-- `salvage::inner::sifting::check` meets its contract.
use Rattle.replies.proofs.LadderLaws.{first_is}
use Rattle.replies.proofs.LadderLaws.First.{here, past, foot}
use Rattle.std.proofs.Common.{ap}
use Rattle.std.proofs.Common.{not}
use Rattle.salvage.proofs.inner.sifting.check.Goals as goal

pub returns-then-not-on : goal.returns-then-not-on
returns-then-not-on c = first_is _ _ (here (ap not c.if-not-on.true))

pub returns-then-not-shape : goal.returns-then-not-shape
returns-then-not-shape c = first_is _ _ (past (ap not c.if-not-on.false) (here (ap not c.if-not-shape.true)))

pub returns : goal.returns
returns c = first_is _ _ (past (ap not c.if-not-on.false) (past (ap not c.if-not-shape.false) foot))
