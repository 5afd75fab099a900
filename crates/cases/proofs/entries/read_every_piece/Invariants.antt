use Rattle.std.proofs.Common.{◌-◌, ◌≤◌, length}
use Rattle.cases.proofs.entries.read_every_piece.Given as goal

abbrev pub invariant-loop-line : goal.invariant-loop-line
invariant-loop-line l = l.end ≤ length l.row

abbrev pub decreases-loop-line : goal.decreases-loop-line
decreases-loop-line l = length l.initial.row - l.end
