use Rattle.ring.specs.Rule.{by}
use Rattle.ring.proofs.Along.{Passed}
use Rattle.ring.proofs.inner.standing_by.Given as goal

abbrev pub invariant-loop-i : goal.invariant-loop-i
invariant-loop-i l = Passed (by l.collinear) l.points l.n l.closing l.to l.i
