use Rattle.std.proofs.Common.{◌≤◌, eqb}
use Rattle.setfile.specs.Layouts.{all_coded}
use Rattle.setfile.specs.Editions.{layout}
use Rattle.setfile.specs.inside.Writing.{most_kept, between, shape_bits}
use Rattle.setfile.proofs.WriteLaws.{Inking}
use Rattle.setfile.proofs.CodedLaws.{marked}
use Rattle.std.specs.Option.{is_some}
use Rattle.setfile.proofs.inner.putting.put_shape.Given as goal

abbrev pub invariant-loop-k : goal.invariant-loop-k
invariant-loop-k l =
    Inking l.initial.behind (shape_bits (is_some l.widths) l.points l.ranges l.from l.to) l.initial.bytes l.behind (all_coded (layout (is_some l.widths)) (marked (eqb l.k l.from) (between l.points l.ranges l.k l.to))) l.bytes
    × (l.behind.width ≤ most_kept (is_some l.widths))
