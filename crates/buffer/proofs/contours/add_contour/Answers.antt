-- `buffer::contours::add_contour` meets its contract.
use Rattle.std.proofs.lemmas.Result.{err_from_is_err_and}
use Rattle.std.proofs.Common.{refl}
use Rattle.buffer.proofs.AddLaws.{one_more_refused, one_more_no_room, one_more_points, one_more_ranges, one_more_done}
use Rattle.buffer.proofs.contours.add_contour.Goals as goal

pub returns-in_err-of_both : goal.returns-in_err-of_both
returns-in_err-of_both c =
    let p = err_from_is_err_and c.from_residual.result c.from_residual.ensures.1 in
    rw (p.1, p.2) (one_more_refused _ _ _ _ _ _ c.sound.ensures _ c.in_err-of_both.ensures)

pub returns-then-not-room : goal.returns-then-not-room
returns-then-not-room c = one_more_no_room _ _ _ _ _ _ c.sound.ensures c.in_ok-of_both.ensures c.if-not-room.true

pub both_numbers-requires : goal.both_numbers-requires
both_numbers-requires c = one_more_points _ _ _ _ _ _ c.sound.ensures c.in_ok-of_both.ensures c.if-not-room.false

pub both_records-requires : goal.both_records-requires
both_records-requires c = one_more_ranges _ _ _ _ _ _ c.sound.ensures c.in_ok-of_both.ensures c.if-not-room.false

pub returns : goal.returns
returns c =
    one_more_done _ _ _ _ _ _ c.sound.ensures c.in_ok-of_both.ensures c.if-not-room.false _ _ c.both_numbers.ensures c.both_records.ensures
