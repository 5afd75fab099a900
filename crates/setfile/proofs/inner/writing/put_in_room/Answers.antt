-- `setfile::inner::writing::put_in_room` meets its contract: no room, or the file in front of the row.
use Rattle.std.specs.Option.{is_some}
use Rattle.setfile.specs.inside.Writing.{file_with}
use Rattle.setfile.proofs.OutcomeLaws.{no_room, put_there}
use Rattle.setfile.proofs.inner.writing.put_in_room.Goals as goal

pub returns-then-bytes-length : goal.returns-then-bytes-length
returns-then-bytes-length c =
    let s = c.args in
    (no_room s.length (file_with (is_some s.widths) s.points.now s.contours.now s.shapes.now) s.bytes.now c.if-bytes-length.true)

pub returns : goal.returns
returns c =
    let s = c.args in
    put_there s.length (file_with (is_some s.widths) s.points.now s.contours.now s.shapes.now) s.bytes.now c.if-bytes-length.false _ _
    c.put_file.ensures.1 c.put_file.ensures.0
