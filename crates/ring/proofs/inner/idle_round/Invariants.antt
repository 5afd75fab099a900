use Rattle.ring.proofs.Rounds.{Backward}
use Rattle.ring.proofs.inner.idle_round.Given as goal

abbrev pub invariant-loop-last : goal.invariant-loop-last
invariant-loop-last l = Backward l.mark l.at l.turns l.last

abbrev pub decreases-loop-last : goal.decreases-loop-last
decreases-loop-last l = l.turns
