use Rattle.path.proofs.ConvexLaws.{Sight}
use Rattle.path.proofs.inner.one_way.Given as goal

abbrev pub invariant-loop-i : goal.invariant-loop-i
invariant-loop-i l = Sight l.points l.n l.seen l.first l.to l.kept l.i
