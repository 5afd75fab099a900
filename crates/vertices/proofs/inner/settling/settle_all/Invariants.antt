use Rattle.vertices.proofs.SettleLaws.{Settling}
use Rattle.vertices.proofs.inner.settling.settle_all.Given as goal

abbrev pub invariant-loop-i : goal.invariant-loop-i
invariant-loop-i l = Settling l.second l.bytes l.n l.points l.initial.mark l.mark l.i l.at l.start
