use Rattle.ring.specs.Walk.{marked}
use Rattle.ring.proofs.Counting.{Found}
use Rattle.clean.proofs.RowLaws.{Writing}
use Rattle.clean.proofs.inner.settling.write.Given as goal

abbrev pub invariant-loop-i : goal.invariant-loop-i
invariant-loop-i l = Writing l.points l.mark l.initial.out l.out l.kept l.i × Found marked l.mark l.marked l.i
