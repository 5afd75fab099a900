use mathlib.Core.List.{map}
use Prim.Native.Nat.{◌*◌}
use lib.ListN.{take, drop}
use Rattle.millimetres.specs.Scale.{millimetres}
use Rattle.rows.proofs.RowLaws.{Copied}
use Rattle.drawing.proofs.inner.putting.some_places.Given as goal

abbrev pub invariant-loop-i : goal.invariant-loop-i
invariant-loop-i l = Copied l.initial.floats (2 * l.from) (map millimetres (take (2 * l.n) (drop (2 * l.from) l.points))) l.floats (2 * l.i)
