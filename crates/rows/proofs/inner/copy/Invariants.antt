use Rattle.rows.proofs.RowLaws.{Copied}
use Rattle.rows.proofs.inner.copy.Given as goal

abbrev pub invariant-loop-i : goal.invariant-loop-i
invariant-loop-i g l = Copied l.initial.out l.at l.from l.out l.i
