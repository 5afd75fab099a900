use mathlib.Core.Path.{◌≡◌}
use mathlib.Core.List.{map}
use Prim.Native.Nat.{◌*◌}
use lib.ListN.{take}
use Rattle.rows.specs.Rows.{front}
use Rattle.millimetres.specs.Scale.{millimetres}
use Rattle.drawing.proofs.inner.putting.places.Given as goal

abbrev pub invariant-loop-k : goal.invariant-loop-k
invariant-loop-k l = l.floats ≡ front (map millimetres (take (2 * (16 * l.k)) l.points)) l.initial.floats
