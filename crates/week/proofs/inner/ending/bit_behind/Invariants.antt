use mathlib.Core.Path.{◌≡◌}
use Prim.Native.Nat.{◌-◌, ◌≤◌}
use Rattle.setfile.specs.inside.Reading.{from_bit, At}
use Rattle.week.specs.Files.{bit_behind}
use Rattle.week.proofs.inner.ending.bit_behind.Given as goal

abbrev pub invariant-loop : goal.invariant-loop
invariant-loop l =
    At l.second l.bytes l.at × (16 ≤ l.at) × (l.counter ≤ l.n) × (bit_behind l.second l.n 16 (from_bit l.bytes 16) ≡ bit_behind l.second (l.n - l.counter) l.at (from_bit l.bytes l.at))
