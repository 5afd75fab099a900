-- `buffer::inner::packing::contours` meets its contract.
use native.Mathlib.Omega.{arith}
use Rattle.buffer.proofs.PackLaws.{pack_no_room, pack_fits, pack_done}
use Rattle.buffer.proofs.inner.packing.contours.Goals as goal

pub returns-then-not-room : goal.returns-then-not-room
returns-then-not-room c = pack_no_room _ _ _ _ c.if-not-room.true

pub copy-requires : goal.copy-requires
copy-requires c = let s = c.args in omega (arith, (pack_fits s.points.now s.ranges.now s.out.now s.records.now c.if-not-room.false).points_in)

pub records-requires : goal.records-requires
records-requires c = let s = c.args in (omega (arith, (pack_fits s.points.now s.ranges.now s.out.now s.records.now c.if-not-room.false).contours_in), c.requires)

pub returns : goal.returns
returns c = pack_done _ _ _ _ c.if-not-room.false _ _ c.copy.ensures c.records.ensures
