use Rattle.sifting.proofs.GoingLaws.{SoFar}
use Rattle.sifting.proofs.inner.cleaning.clean.Given as goal

abbrev pub invariant-loop-i : goal.invariant-loop-i
invariant-loop-i l = SoFar l.rule l.initial.points l.initial.records l.n l.points l.records l.i l.at
