use Prim.Native.Nat.{◌-◌}
use Rattle.path.specs.inside.Locate.{Untouched}
use Rattle.path.proofs.inner.location_from.Given as goal

abbrev pub invariant-loop-i : goal.invariant-loop-i
invariant-loop-i l = Untouched l.points l.n l.p l.odd l.a l.i

abbrev pub decreases-loop-i : goal.decreases-loop-i
decreases-loop-i l = l.n - l.i
