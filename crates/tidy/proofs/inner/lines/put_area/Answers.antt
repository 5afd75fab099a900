-- `tidy::inner::lines::put_area` meets its contract: an area, or that there is none.
use borrow.Author.Rules.{sfits_of}
use Rattle.report.proofs.LineLaws.{area_clear}
use Rattle.report.proofs.PutLaws.{going_room, going_more, going_all}
use Rattle.tidy.proofs.LineLaws.{area_none, area_begun}
use Rattle.tidy.proofs.inner.lines.put_area.Goals as goal

pub put-requires : goal.put-requires
put-requires c =
    rw (area_none c.args.contour.now c.if-contour-eq0.true) at c.requires.contour_in_bounds

pub returns-then-contour-eq0 : goal.returns-then-contour-eq0
returns-then-contour-eq0 c =
    rw (area_none c.args.contour.now c.if-contour-eq0.true) c.put.ensures

pub doubled_area-doubled-requires : goal.doubled_area-doubled-requires
doubled_area-doubled-requires c =
    area_clear c.args.contour.now c.if-contour-eq0.false c.requires.contour

pub put-behind-requires : goal.put-behind-requires
put-behind-requires c =
    let s = c.args in
    let due = area_begun s.contour.now c.if-contour-eq0.false c.doubled_area-doubled.result (sfits_of c.doubled_area-doubled.type_inv) c.doubled_area-doubled.ensures s.at s.text.now c.requires.contour_in_bounds in
    going_room due

pub put_signed-requires : goal.put_signed-requires
put_signed-requires c =
    let s = c.args in
    let due = area_begun s.contour.now c.if-contour-eq0.false c.doubled_area-doubled.result (sfits_of c.doubled_area-doubled.type_inv) c.doubled_area-doubled.ensures s.at s.text.now c.requires.contour_in_bounds in
    going_room (going_more due c.put-behind.ensures)

pub returns : goal.returns
returns c =
    let s = c.args in
    let due = area_begun s.contour.now c.if-contour-eq0.false c.doubled_area-doubled.result (sfits_of c.doubled_area-doubled.type_inv) c.doubled_area-doubled.ensures s.at s.text.now c.requires.contour_in_bounds in
    going_all (going_more (going_more due c.put-behind.ensures) c.put_signed.ensures)
