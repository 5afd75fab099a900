use mathlib.Core.Path.{◌≡◌}
use Prim.Native.Nat.{◌*◌, ◌^◌}
use lib.IntN.{pos}
use Rattle.bits.specs.inside.Pens.{narrowed, Fronted}
use Rattle.steps.specs.inside.Asked.{joined}
use Rattle.steps.proofs.WriteLaws.{Writing}
use Rattle.steps.proofs.inner.writing.put_pairs.Given as goal

abbrev pub invariant-loop-i : goal.invariant-loop-i
invariant-loop-i l =
    Writing (narrowed l.initial.b) l.initial.bytes l.contour l.width (4 * l.i) (narrowed l.b) l.bytes
    × Fronted l.b
    × (l.from ≡ joined (pos (2 ^ l.width)) l.contour (4 * l.i))
