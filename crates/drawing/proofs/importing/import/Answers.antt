-- `drawing::importing::import` meets its contract: it is refused by the ladder and for want of room, or both rows are filled.
use Rattle.std.proofs.lemmas.Result.{err_from_is_err_and}
use Rattle.drawing.proofs.ImportLaws.{import_refused, import_no_room, import_points, import_ranges, import_done}
use Rattle.drawing.proofs.importing.import.Goals as goal

pub returns-in_err-judge : goal.returns-in_err-judge
returns-in_err-judge c =
    let p = err_from_is_err_and c.from_residual.result c.from_residual.ensures.1 in
    rw (p.1, p.2) (import_refused _ _ _ _ _ c.in_err-judge.ensures)

pub returns-then-not-room : goal.returns-then-not-room
returns-then-not-room c = import_no_room _ _ _ _ c.in_ok-judge.ensures _ c.contours-contours.ensures c.if-not-room.true

pub points-requires : goal.points-requires
points-requires c =
    let s = c.args in
    import_points s.kinds.now s.floats.now s.points.now s.ranges.now c.in_ok-judge.ensures _ c.contours-contours.ensures c.if-not-room.false

pub ranges-requires : goal.ranges-requires
ranges-requires c =
    let s = c.args in
    import_ranges s.kinds.now s.floats.now s.points.now s.ranges.now c.in_ok-judge.ensures _ c.contours-contours.ensures c.if-not-room.false

pub returns : goal.returns
returns c =
    import_done _ _ _ _ c.in_ok-judge.ensures _ c.contours-contours.ensures c.if-not-room.false _ _ c.points.ensures c.ranges-2.ensures
