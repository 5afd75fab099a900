-- `bits::inner::pens::lift` meets its contract.
use native.Mathlib.Omega.{arith}
use Rattle.bits.specs.Bits.{fill}
use Rattle.bits.proofs.BitLaws.{field-length}
use Rattle.bits.proofs.PenLaws.{lifted}
use Rattle.bits.proofs.inner.pens.lift.Goals as goal

pub spill-done-requires : goal.spill-done-requires
spill-done-requires c = let w = c.write-full.ensures in (record { small = w.0.small; few = w.1 }, omega (arith, c.requires.1, w.0.behind, w.0.long, field-length (fill c.args.pen.width) 0))

pub returns : goal.returns
returns c = lifted _ (omega arith) c.write-full.ensures.0 c.spill-done.ensures.0 c.spill-done.ensures.1
