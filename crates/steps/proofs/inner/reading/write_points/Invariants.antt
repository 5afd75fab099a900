use mathlib.Core.Path.{◌≡◌}
use Prim.Native.Nat.{◌*◌, ◌≤◌}
use lib.ListN.{drop}
use Rattle.bits.specs.Bits.{bits}
use Rattle.bits.specs.Signs.{numbers}
use Rattle.rows.proofs.RowLaws.{Copied}
use Rattle.steps.specs.Steps.{sums}
use Rattle.steps.proofs.ReadLaws.{rest}
use Rattle.steps.proofs.inner.reading.write_points.Given as goal

abbrev pub invariant-loop-i : goal.invariant-loop-i
invariant-loop-i l =
    Copied l.initial.out l.to (sums l.x l.y (numbers l.width (2 * l.n) (drop l.at (bits l.bytes)))) l.out (2 * l.i)
    × (drop (2 * l.i) (sums l.x l.y (numbers l.width (2 * l.n) (drop l.at (bits l.bytes)))) ≡ sums l.a l.b (rest l.bytes l.at l.width (2 * l.n) (2 * l.i)))
    × (l.i ≤ l.n)
