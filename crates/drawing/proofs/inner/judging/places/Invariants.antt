use mathlib.Core.Path.{◌≡◌}
use Prim.Native.Nat.{◌+◌, ◌*◌, ◌≤◌}
use lib.ListN.{drop}
use Rattle.drawing.specs.Commands.{asked}
use Rattle.drawing.proofs.inner.judging.places.Given as goal

abbrev pub invariant-loop-kind : goal.invariant-loop-kind
invariant-loop-kind l = (l.n ≤ l.kind-index) × (2 * l.n + asked (drop l.kind-index l.kinds) ≡ asked l.kinds)
