use Rattle.std.proofs.Common.{◌≤◌}
use Rattle.rows.specs.Rows.{front}
use Rattle.buffer.specs.Spans.{rows}
use Rattle.buffer.specs.Sets.{shape_spans}
use Rattle.setfile.specs.Entries.{shapes_of}
use Rattle.setfile.specs.inside.Reading.{contained}
use Rattle.setfile.proofs.FillLaws.{Filling}
use Rattle.setfile.proofs.ShapeFillLaws.{shapes_made}
use Rattle.setfile.proofs.inner.filling.begun_shapes.Given as goal

abbrev pub invariant-loop-i : goal.invariant-loop-i
invariant-loop-i l =
    (l.shape.from ≤ l.i)
    × Filling l.second l.bytes l.n l.initial.groups (front (rows (shape_spans (shapes_of (contained l.bytes)))) l.initial.groups)
    (shapes_made l.shape.from l.i) l.i l.at l.shape.number l.groups
