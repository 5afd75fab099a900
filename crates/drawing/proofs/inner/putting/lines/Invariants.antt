use Rattle.rows.proofs.RowLaws.{Copied}
use Rattle.drawing.proofs.PutLaws.{ones}
use Rattle.drawing.proofs.inner.putting.lines.Given as goal

abbrev pub invariant-loop-i : goal.invariant-loop-i
invariant-loop-i l = Copied l.initial.kinds l.at (ones l.n) l.kinds l.i
