use Prim.Native.Nat.{◌+◌, ◌*◌}
use lib.ListN.{length}
use Rattle.ring.specs.Walk.{unmarked, occurrences}
use Rattle.ring.specs.Rule.{by, goes}
use Rattle.ring.proofs.Loop.{Turn}
use Rattle.ring.proofs.inner.round.Given as goal

abbrev pub invariant-loop-mark : goal.invariant-loop-mark
invariant-loop-mark l = Turn (goes (by l.collinear) l.points) (length l.initial.mark) l.next l.prev l.mark l.remaining l.decisions l.at

abbrev pub decreases-loop-mark : goal.decreases-loop-mark
decreases-loop-mark l = 3 * l.remaining + occurrences unmarked l.mark
