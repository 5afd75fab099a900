use Rattle.account.proofs.LineLaws.{Telling}
use Rattle.account.proofs.inner.lines.put.Given as goal

abbrev pub invariant-loop-number : goal.invariant-loop-number
invariant-loop-number l = Telling l.list l.initial.text l.behind l.text l.number-index
