use Rattle.picture.proofs.OutlineLaws.{Outlining}
use Rattle.picture.proofs.inner.outlines.put.Given as goal

abbrev pub invariant-loop-i : goal.invariant-loop-i
invariant-loop-i l = Outlining l.second l.bytes l.n l.points l.from l.initial.text l.behind l.text l.i l.at l.start
