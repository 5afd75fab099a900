use mathlib.Core.List.{[]}
use Prim.Native.Nat.{◌*◌, ◌≤◌}
use lib.ListN.{length}
use Rattle.bits.specs.inside.Pens.{reached, Wrote, broad, narrowed, Fronted}
use Rattle.bits.proofs.inner.broad.narrow.Given as goal

abbrev pub invariant-loop-width : goal.invariant-loop-width
invariant-loop-width l =
    Wrote (narrowed (broad l.initial.at l.initial.kept l.initial.width)) [] l.initial.bytes (narrowed (broad l.at l.kept l.width)) l.bytes
    × Fronted (broad l.at l.kept l.width)
    × (reached (narrowed (broad l.initial.at l.initial.kept l.initial.width)) ≤ 8 * length l.initial.bytes)

abbrev pub decreases-loop-width : goal.decreases-loop-width
decreases-loop-width l = l.width
