use Rattle.sifting.proofs.SiftingLaws.{Sinking}
use Rattle.sifting.proofs.inner.sifting.survivors.Given as goal

abbrev pub invariant-loop-i : goal.invariant-loop-i
invariant-loop-i l = Sinking l.initial.row l.start l.to l.mark l.row l.kept l.i
