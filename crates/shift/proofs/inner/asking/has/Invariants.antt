use Rattle.std.proofs.Common.{length, ◌≤◌}
use Rattle.shift.proofs.AskingLaws.{Deciding}
use Rattle.shift.proofs.inner.asking.has.Given as goal

abbrev pub invariant-loop-start : goal.invariant-loop-start
invariant-loop-start l = (fit : l.n ≤ length l.records) → Deciding l.points l.records l.n l.press l.p fit l.met l.start-index
