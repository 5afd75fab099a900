-- `sets::inner::shapes::sweep_shape` meets its contract: a set of one shape is cleaned, and it stands where it is written.
use Rattle.std.proofs.Common.{refl}
use Rattle.sets.proofs.EachLaws.{alone_each, alone_tested}
use Rattle.sets.proofs.inner.shapes.sweep_shape.Goals as goal

pub sweep_shapes-at-requires : goal.sweep_shapes-at-requires
sweep_shapes-at-requires c =
    alone_each c.args.points.now c.args.ranges.now c.args.out.now c.args.records.now _ c.args.next.now c.args.prev.now c.args.mark.now c.requires refl

pub returns : goal.returns
returns c =
    let said = c.sweep_shapes-at.ensures in
    record { records_after = alone_tested c.args.points.now c.args.ranges.now c.args.out.now c.args.records.now _ c.args.rule c.sweep_shapes-at.result _ _ _ said.groups_after _ c.only.ensures; zeroed = said.zeroed }
