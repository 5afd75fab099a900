use Rattle.pool.proofs.RecordLaws.{Seeking}
use Rattle.pool.proofs.inner.records.find.Given as goal

abbrev pub invariant-loop-i : goal.invariant-loop-i
invariant-loop-i l = Seeking l.records l.n l.press l.k l.i l.rest
