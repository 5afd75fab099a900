-- `bits::inner::widths::width_for` meets its contract.
use Rattle.bits.proofs.WidthLaws.{by_zeros}
use Rattle.bits.proofs.inner.widths.width_for.Goals as goal

pub returns : goal.returns
returns c = by_zeros c.args.far c.requires
