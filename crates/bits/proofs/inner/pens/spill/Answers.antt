-- `bits::inner::pens::spill` meets its contract.
use Prim.Native.Nat.{◌-◌}
use native.Mathlib.Omega.{arith}
use Rattle.bits.specs.inside.Pens.{pen}
use Rattle.bits.proofs.PenLaws.{wrote_one, top_byte}
use Rattle.bits.proofs.inner.pens.spill.Goals as goal

pub overflow_cast-bytes : goal.overflow_cast-bytes
overflow_cast-bytes c =
    let l = c.loop-width in
    record { fits = top_byte (pen l.at l.kept l.width) (l.width - 8) l.invariant.0.small (omega arith) }

pub loop-width-preserved : goal.loop-width-preserved
loop-width-preserved c =
    let l = c.loop-width in (
      wrote_one (l.width - 8) l.invariant.0 (omega arith) (omega (arith, l.invariant.1)) (omega (arith, l.invariant.0.behind, l.invariant.2)),
      omega (arith, l.invariant.1),
      l.invariant.2,
    )
