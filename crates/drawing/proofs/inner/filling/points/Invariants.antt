use mathlib.Core.List.{map}
use Prim.Native.Nat.{◌*◌}
use Rattle.rows.proofs.RowLaws.{Copied}
use Rattle.millimetres.specs.Scale.{units}
use Rattle.drawing.proofs.inner.filling.points.Given as goal

abbrev pub invariant-loop-i : goal.invariant-loop-i
invariant-loop-i l = Copied l.initial.out 0 (map units l.floats) l.out (2 * l.i)
