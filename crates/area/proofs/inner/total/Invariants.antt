use Rattle.area.proofs.Sums.{Gathered}
use Rattle.area.proofs.inner.total.Given as goal

abbrev pub invariant-loop-i : goal.invariant-loop-i
invariant-loop-i l = Gathered l.points l.n l.sum l.i
