use Rattle.pool.proofs.RecordLaws.{Surveying}
use Rattle.pool.proofs.inner.survey.surveyed.Given as goal

abbrev pub invariant-loop-record : goal.invariant-loop-record
invariant-loop-record l = Surveying l.records l.n l.places l.at l.all l.second l.record-index
