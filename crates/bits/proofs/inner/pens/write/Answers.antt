-- `bits::inner::pens::write` meets its contract.
use mathlib.Core.Path.{refl}
use Prim.Native.Nat.{◌+◌, ◌-◌, ◌*◌, ◌%◌, ◌^◌}
use native.Mathlib.Omega.{arith}
use Rattle.bits.proofs.PenLaws.{taken_up, wrote_up, wrote_four}
use Rattle.bits.proofs.inner.pens.write.Goals as goal

pub returns-then-all-lt32 : goal.returns-then-all-lt32
returns-then-all-lt32 c =
    let s = c.args in
    let pre = c.requires in (
      rw (taken_up s.pen s.bytes.now s.width s.n pre.0 pre.1.within_32 pre.2) (wrote_up s.pen s.bytes.now s.width s.n pre.0.small pre.2),
      c.if-all-lt32.true,
    )

pub returns : goal.returns
returns c =
    let s = c.args in
    let pre = c.requires in (
      wrote_four s.pen s.bytes.now _ s.width s.n (s.pen.kept * 2 ^ s.width % 2 ^ 64 + s.n) (s.pen.width + s.width - 32) pre.0 pre.1 pre.2 refl (omega arith) c.spell.ensures,
      omega (arith, pre.0.few, pre.1.within_32),
    )
