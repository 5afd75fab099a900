use Rattle.std.proofs.Common.{◌≡◌, ℕ, ◌<◌, ◌≤◌}
use Rattle.grid.specs.Points.{at}
use Rattle.path.specs.Contains.{above}
use Rattle.path.proofs.inner.next_across.Given as goal

abbrev pub invariant-loop-here : goal.invariant-loop-here
invariant-loop-here l = (j : ℕ) → l.i ≤ j → j < l.here → above l.p (at l.points j) ≡ l.up
