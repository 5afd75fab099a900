use Rattle.std.proofs.Common.{ℕ}
use Rattle.fates.proofs.EachLaws.{Telling}
use Rattle.fates.proofs.inner.shapes.each.Given as goal

abbrev pub invariant-loop-from : goal.invariant-loop-from
invariant-loop-from l = (at : ℕ) × Telling l.rule l.points l.contours l.shapes l.initial.fates at l.fates l.from-index
