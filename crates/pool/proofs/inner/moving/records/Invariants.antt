use Rattle.pool.proofs.MovingLaws.{Lowered}
use Rattle.pool.proofs.inner.moving.records.Given as goal

abbrev pub invariant-loop-i : goal.invariant-loop-i
invariant-loop-i l = Lowered l.initial.row l.row l.at l.d l.n l.i
