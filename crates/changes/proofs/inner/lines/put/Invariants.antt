use Rattle.changes.proofs.LineLaws.{Telling}
use Rattle.changes.proofs.inner.lines.put.Given as goal

abbrev pub invariant-loop-i : goal.invariant-loop-i
invariant-loop-i l = Telling l.listing l.initial.text l.behind l.text l.i
