-- `bits::inner::broad::broaden` meets its contract.
use Rattle.bits.proofs.BroadLaws.{broadened, broadened_is}
use Rattle.bits.proofs.inner.broad.broaden.Goals as goal

pub returns : goal.returns
returns c = (broadened c.args.pen c.requires, broadened_is c.args.pen c.requires)
