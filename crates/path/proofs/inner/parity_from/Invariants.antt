use Prim.Native.Nat.{◌-◌}
use Rattle.path.specs.inside.Contains.{Changing}
use Rattle.path.proofs.inner.parity_from.Given as goal

abbrev pub invariant-loop-i : goal.invariant-loop-i
invariant-loop-i l = Changing l.points l.n l.p l.odd l.a l.i

abbrev pub decreases-loop-i : goal.decreases-loop-i
decreases-loop-i l = l.n - l.i
