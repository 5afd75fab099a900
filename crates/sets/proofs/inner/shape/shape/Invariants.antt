use Rattle.sets.proofs.ShapeLaws.{Laying}
use Rattle.sets.proofs.inner.shape.shape.Given as goal

abbrev pub invariant-loop-i : goal.invariant-loop-i
invariant-loop-i l = Laying l.rule l.points l.ranges l.initial.progress l.initial.out l.initial.records l.progress l.out l.records l.i
