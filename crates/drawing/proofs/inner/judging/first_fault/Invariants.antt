use Rattle.drawing.proofs.FaultLaws.{Judged}
use Rattle.drawing.proofs.inner.judging.first_fault.Given as goal

abbrev pub invariant-loop-kind : goal.invariant-loop-kind
invariant-loop-kind l = Judged l.kinds l.floats l.opened l.at l.kind-index
