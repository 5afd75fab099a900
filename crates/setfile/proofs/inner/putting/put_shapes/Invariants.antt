use Rattle.std.proofs.Common.{◌≤◌, drop}
use Rattle.setfile.specs.inside.Writing.{most_kept, shapes_bits}
use Rattle.setfile.proofs.WriteLaws.{Inking}
use Rattle.std.specs.Option.{is_some}
use Rattle.setfile.proofs.inner.putting.put_shapes.Given as goal

abbrev pub invariant-loop-from : goal.invariant-loop-from
invariant-loop-from l =
    Inking l.initial.behind (shapes_bits (is_some l.widths) l.points l.contours l.shapes) l.initial.bytes l.behind (shapes_bits (is_some l.widths) l.points l.contours (drop l.from-index l.shapes)) l.bytes
    × (l.behind.width ≤ most_kept (is_some l.widths))
