-- `buffer::shapes::add_shape` meets its contract.
use Rattle.std.proofs.lemmas.Result.{err_from_is_err_and}
use native.Mathlib.Omega.{arith}
use Rattle.buffer.proofs.AddLaws.{shape_more_refused, shape_more_no_room, shape_more_points, shape_more_contours, shape_more_shapes, shape_more_done}
use Rattle.buffer.proofs.shapes.add_shape.Goals as goal

pub returns-in_err-of_both : goal.returns-in_err-of_both
returns-in_err-of_both c =
    let p = err_from_is_err_and c.from_residual.result c.from_residual.ensures.1 in
    rw (p.1, p.2) (shape_more_refused _ _ _ _ _ _ _ _ _ c.both_sound.ensures _ c.in_err-of_both.ensures)

pub returns-then-not-room : goal.returns-then-not-room
returns-then-not-room c = shape_more_no_room _ _ _ _ _ _ _ _ _ c.both_sound.ensures c.in_ok-of_both.ensures c.if-not-room.true

pub both_numbers-requires : goal.both_numbers-requires
both_numbers-requires c = shape_more_points _ _ _ _ _ _ _ _ _ c.both_sound.ensures c.in_ok-of_both.ensures c.if-not-room.false

pub both_records-requires : goal.both_records-requires
both_records-requires c = shape_more_contours _ _ _ _ _ _ _ _ _ c.both_sound.ensures c.in_ok-of_both.ensures c.if-not-room.false

pub both_records-requires-2 : goal.both_records-requires-2
both_records-requires-2 c = shape_more_shapes _ _ _ _ _ _ _ _ _ c.both_sound.ensures c.in_ok-of_both.ensures c.if-not-room.false (omega arith)

pub returns : goal.returns
returns c =
    shape_more_done _ _ _ _ _ _ _ _ _ c.both_sound.ensures c.in_ok-of_both.ensures c.if-not-room.false _ _ _
    c.both_numbers.ensures c.both_records.ensures c.both_records-2.ensures
