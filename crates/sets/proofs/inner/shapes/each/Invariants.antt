use Rattle.sets.proofs.EachLaws.{Grouping}
use Rattle.sets.proofs.inner.shapes.each.Given as goal

abbrev pub invariant-loop-from : goal.invariant-loop-from
invariant-loop-from l = Grouping l.rule l.points l.contours l.shapes l.initial.out l.initial.records l.initial.groups l.at l.out l.records l.groups l.from-index
