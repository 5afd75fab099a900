use mathlib.Core.Path.{◌≡◌}
use Prim.Native.Nat.{◌+◌, ◌≤◌}
use lib.ListN.{length, drop}
use Rattle.drawing.specs.inside.Rows.{sizes}
use Rattle.drawing.proofs.inner.filling.contours.Given as goal

abbrev pub invariant-loop-kind : goal.invariant-loop-kind
invariant-loop-kind l = (l.n ≤ l.kind-index) × (l.n + length (sizes (drop l.kind-index l.kinds)) ≡ length (sizes l.kinds))
