use Rattle.drawing.proofs.FillLaws.{Ranging}
use Rattle.drawing.proofs.inner.filling.ranges.Given as goal

abbrev pub invariant-loop-i : goal.invariant-loop-i
invariant-loop-i l = Ranging l.kinds l.initial.records l.records l.k l.start l.i
