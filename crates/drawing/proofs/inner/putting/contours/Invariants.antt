use mathlib.Core.Path.{◌≡◌}
use lib.ListN.{length, take}
use Rattle.rows.specs.Rows.{front}
use Rattle.buffer.specs.Spans.{spans}
use Rattle.drawing.specs.inside.Rows.{set_kinds}
use Rattle.drawing.proofs.inner.putting.contours.Given as goal

abbrev pub invariant-loop-r : goal.invariant-loop-r
invariant-loop-r l =
    let before = set_kinds (take l.r-index (spans l.ranges)) in
    (l.at ≡ length before) × (l.kinds ≡ front before l.initial.kinds)
