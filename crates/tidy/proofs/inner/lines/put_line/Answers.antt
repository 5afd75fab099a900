-- `tidy::inner::lines::put_line` meets its contract: nothing of a contour that is kept, and else word after word.
use Rattle.report.proofs.PutLaws.{going_room, going_more, going_all}
use Rattle.tidy.proofs.LineLaws.{line_begun, none_put}
use Rattle.tidy.proofs.inner.lines.put_line.Goals as goal

pub returns-then-fate-eq-KEPT : goal.returns-then-fate-eq-KEPT
returns-then-fate-eq-KEPT c = let s = c.args in none_put s.k s.fate s.contour.now c.if-fate-eq-KEPT.true s.at s.text.now

pub put_between-second-requires : goal.put_between-second-requires
put_between-second-requires c =
    let s = c.args in
    let due = line_begun s.k s.fate s.contour.now c.if-fate-eq-KEPT.false s.at s.text.now c.requires.contour_in_bounds in
    going_room due

pub put_reason-third-requires : goal.put_reason-third-requires
put_reason-third-requires c =
    let s = c.args in
    let due = line_begun s.k s.fate s.contour.now c.if-fate-eq-KEPT.false s.at s.text.now c.requires.contour_in_bounds in
    going_room (going_more due c.put_between-second.ensures)

pub put_area-fourth-requires : goal.put_area-fourth-requires
put_area-fourth-requires c =
    let s = c.args in
    let due = line_begun s.k s.fate s.contour.now c.if-fate-eq-KEPT.false s.at s.text.now c.requires.contour_in_bounds in
    record { contour = c.requires.contour; contour_in_bounds = going_room (going_more (going_more due c.put_between-second.ensures) c.put_reason-third.ensures) }

pub put-requires : goal.put-requires
put-requires c =
    let s = c.args in
    let due = line_begun s.k s.fate s.contour.now c.if-fate-eq-KEPT.false s.at s.text.now c.requires.contour_in_bounds in
    going_room (going_more (going_more (going_more due c.put_between-second.ensures) c.put_reason-third.ensures) c.put_area-fourth.ensures)

pub returns : goal.returns
returns c =
    let s = c.args in
    let due = line_begun s.k s.fate s.contour.now c.if-fate-eq-KEPT.false s.at s.text.now c.requires.contour_in_bounds in
    going_all (going_more (going_more (going_more (going_more due c.put_between-second.ensures) c.put_reason-third.ensures) c.put_area-fourth.ensures) c.put.ensures)
