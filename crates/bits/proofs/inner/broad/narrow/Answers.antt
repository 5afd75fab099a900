-- `bits::inner::broad::narrow` meets its contract.
use Prim.Native.Nat.{◌-◌}
use native.Mathlib.Omega.{arith}
use Rattle.bits.specs.inside.Pens.{broad}
use Rattle.bits.proofs.BroadLaws.{poured, poured_front, narrow_is}
use Rattle.bits.proofs.inner.broad.narrow.Goals as goal

pub loop-width-preserved : goal.loop-width-preserved
loop-width-preserved c =
    let l = c.loop-width in
    let b = broad l.at l.kept l.width in (
      poured b (l.width - 32) l.invariant.1 l.invariant.0 (omega arith) (omega (arith, l.invariant.0.behind, l.invariant.2)) c.spell.ensures,
      poured_front b (l.width - 32) l.invariant.1 l.invariant.0 (omega arith),
      l.invariant.2,
    )

pub returns : goal.returns
returns c =
    let l = c.loop-width in
    (rw (narrow_is l.at l.kept l.width (omega arith)) l.invariant.0, omega arith)
