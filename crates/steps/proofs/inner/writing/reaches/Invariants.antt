use Rattle.steps.proofs.WriteLaws.{Reached}
use Rattle.steps.proofs.inner.writing.reaches.Given as goal

abbrev pub invariant-loop-k : goal.invariant-loop-k
invariant-loop-k l = Reached l.contour l.all l.k
