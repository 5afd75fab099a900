use Rattle.tidy.proofs.LineLaws.{Telling}
use Rattle.tidy.proofs.inner.lines.put.Given as goal

abbrev pub invariant-loop-i : goal.invariant-loop-i
invariant-loop-i l = Telling l.points l.ranges l.fates l.initial.text l.behind l.text l.i
