use mathlib.Core.List.{[]}
use Prim.Native.Nat.{◌*◌, ◌<◌, ◌≤◌}
use lib.ListN.{length}
use Rattle.bits.specs.inside.Pens.{pen, reached, Wrote}
use Rattle.bits.proofs.inner.pens.spill.Given as goal

abbrev pub invariant-loop-width : goal.invariant-loop-width
invariant-loop-width l =
    Wrote (pen l.initial.at l.initial.kept l.initial.width) [] l.initial.bytes (pen l.at l.kept l.width) l.bytes × (l.width < 32) × (reached (pen l.initial.at l.initial.kept l.initial.width) ≤ 8 * length l.initial.bytes)

abbrev pub decreases-loop-width : goal.decreases-loop-width
decreases-loop-width l = l.width
