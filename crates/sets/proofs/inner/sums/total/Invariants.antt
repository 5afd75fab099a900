use Rattle.sets.proofs.AreaLaws.{Gathered}
use Rattle.sets.proofs.inner.sums.total.Given as goal

abbrev pub invariant-loop-i : goal.invariant-loop-i
invariant-loop-i l = Gathered l.points l.ranges l.sum l.i
