use Rattle.figures.proofs.CountingLaws.{Counting}
use Rattle.figures.proofs.inner.adding.each.Given as goal

abbrev pub invariant-loop-i : goal.invariant-loop-i
invariant-loop-i l = Counting l.rule l.points l.contours l.initial.out l.all l.out l.i
