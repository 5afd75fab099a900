use Rattle.jobtext.proofs.LineLaws.{Spelling}
use Rattle.jobtext.proofs.inner.lines.put_numbers.Given as goal

abbrev pub invariant-loop-z : goal.invariant-loop-z
invariant-loop-z l = Spelling l.at l.contour l.initial.text l.behind l.text l.z-index
