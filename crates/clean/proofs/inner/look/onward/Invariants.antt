use Rattle.clean.specs.inside.Looking.{Onward}
use Rattle.clean.proofs.inner.look.onward.Given as goal

abbrev pub invariant-loop-i : goal.invariant-loop-i
invariant-loop-i l = Onward l.points l.n l.first l.to l.kept l.i
