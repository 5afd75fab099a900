use Rattle.std.proofs.Common.{length, ◌-◌, ◌≤◌}
use Rattle.streams.proofs.read_full.Given as goal

abbrev pub invariant_loop_done : goal.invariant-loop-done
invariant_loop_done g l = l.done ≤ length l.bytes

abbrev pub decreases_loop_done : goal.decreases-loop-done
decreases_loop_done g l = length l.bytes - l.done
