use Rattle.salvage.proofs.SiftLaws.{Sifting}
use Rattle.salvage.proofs.inner.sifting.contours.Given as goal

abbrev pub invariant-loop-i : goal.invariant-loop-i
invariant-loop-i l = Sifting l.bytes l.n l.initial.out l.initial.list l.i l.s l.out l.list
