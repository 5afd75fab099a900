use Rattle.std.proofs.Common.{◌≡◌}
use Rattle.figures.proofs.TotalLaws.{so_far}
use Rattle.figures.proofs.inner.sums.add_totals.Given as goal

abbrev pub invariant-loop-i : goal.invariant-loop-i
invariant-loop-i l = l.row ≡ so_far l.initial.row l.other l.i
