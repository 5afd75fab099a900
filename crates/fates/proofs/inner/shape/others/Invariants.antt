use Rattle.fates.specs.Fates.{later}
use Rattle.fates.proofs.FilledLaws.{Filled}
use Rattle.fates.proofs.inner.shape.others.Given as goal

abbrev pub invariant-loop-i : goal.invariant-loop-i
invariant-loop-i l = Filled (later l.rule l.outline) l.points l.ranges l.initial.fates l.fates l.i
