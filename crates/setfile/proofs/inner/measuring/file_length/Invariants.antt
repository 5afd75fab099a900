use Rattle.std.proofs.Common.{◌≡◌, [], ℕ, ◌+◌, ◌*◌, ◌<◌, ◌≤◌, length, get_or, drop}
use Rattle.steps.specs.Bodies.{contour_width}
use Rattle.buffer.specs.Spans.{span}
use Rattle.buffer.specs.Sets.{contour}
use Rattle.setfile.specs.inside.Writing.{all_size}
use Rattle.setfile.proofs.inner.measuring.file_length.Given as goal

abbrev pub invariant-loop-k : goal.invariant-loop-k
invariant-loop-k l =
    (l.bits ≤ 16 + 2097110 * l.k)
    × (l.bits + all_size l.points (drop l.k l.contours) ≡ 16 + all_size l.points l.contours)
    × ((j : ℕ) → j < l.k → get_or l.widths j 0 ≡ contour_width (contour l.points (span (get_or l.contours j []))))
    × (length l.widths ≡ length l.initial.widths)
