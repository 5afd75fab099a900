use mathlib.Core.Path.{◌≡◌}
use lib.ListN.{drop}
use Rattle.bits.specs.Bits.{bits}
use Rattle.bits.specs.Signs.{numbers}
use Rattle.grid.specs.Limits.{limit, all_on_grid}
use Rattle.steps.specs.Steps.{sums}
use Rattle.steps.proofs.ReadLaws.{rest}
use Rattle.steps.proofs.inner.reading.sums_on.Given as goal

abbrev pub invariant-loop-i : goal.invariant-loop-i
invariant-loop-i l =
    all_on_grid limit (sums l.x l.y (numbers l.width l.k (drop l.at (bits l.bytes)))) ≡ all_on_grid limit (sums l.a l.b (rest l.bytes l.at l.width l.k l.i))
