use Rattle.std.proofs.Common.{◌≤◌}
use Rattle.rows.specs.Rows.{front}
use Rattle.buffer.specs.Spans.{rows}
use Rattle.buffer.specs.Sets.{contour_spans}
use Rattle.setfile.specs.Entries.{contours_of}
use Rattle.setfile.specs.inside.Reading.{contained}
use Rattle.setfile.proofs.FillLaws.{Filling, contours_made}
use Rattle.setfile.proofs.inner.filling.ranges.Given as goal

abbrev pub invariant-loop-i : goal.invariant-loop-i
invariant-loop-i l =
    (l.start ≤ l.at)
    × Filling l.second l.bytes l.n l.initial.records (front (rows (contour_spans (contours_of (contained l.bytes)))) l.initial.records) (contours_made l.start) l.i l.at l.i l.records
