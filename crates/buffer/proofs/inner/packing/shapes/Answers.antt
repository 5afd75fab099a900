-- `buffer::inner::packing::shapes` meets its contract.
use native.Mathlib.Omega.{arith}
use Rattle.buffer.proofs.PackLaws.{group_no_room, group_fits, group_done}
use Rattle.buffer.proofs.inner.packing.shapes.Goals as goal

pub returns-then-not-room : goal.returns-then-not-room
returns-then-not-room c = group_no_room _ _ _ _ _ _ c.if-not-room.true

pub copy-requires : goal.copy-requires
copy-requires c = let s = c.args in omega (arith, (group_fits s.points.now s.contours.now s.shapes.now s.out.now s.records.now s.groups.now c.if-not-room.false).points_in)

pub records-requires : goal.records-requires
records-requires c = let s = c.args in (omega (arith, (group_fits s.points.now s.contours.now s.shapes.now s.out.now s.records.now s.groups.now c.if-not-room.false).contours_in), c.requires.0)

pub records-requires-2 : goal.records-requires-2
records-requires-2 c = let s = c.args in (omega (arith, (group_fits s.points.now s.contours.now s.shapes.now s.out.now s.records.now s.groups.now c.if-not-room.false).shapes_in), c.requires.1)

pub returns : goal.returns
returns c = group_done _ _ _ _ _ _ c.if-not-room.false _ _ _ c.copy.ensures c.records.ensures c.records-2.ensures
