-- `picture::inner::outlines::put_outline` meets its contract: M, the coordinates and Z, or nothing.
use Rattle.report.proofs.PutLaws.{going_none, going_room, going_more, going_all}
use Rattle.vertices.proofs.DotLaws.{nothing_put}
use Rattle.picture.proofs.PartLaws.{outline_none, outline_words}
use Rattle.picture.proofs.inner.outlines.put_outline.Goals as goal

pub returns-then-contour-eq0 : goal.returns-then-contour-eq0
returns-then-contour-eq0 c =
    let s = c.args in
    rw (outline_none s.contour.now c.if-contour-eq0.true) (nothing_put s.at s.text.now)

pub put-second-requires : goal.put-second-requires
put-second-requires c = going_room (going_none c.args.at c.args.text.now _ (outline_words c.args.contour.now c.if-contour-eq0.false) c.requires.contour_in_bounds)

pub put_coordinates-third-requires-clause-contour_in_bounds : goal.put_coordinates-third-requires-clause-contour_in_bounds
put_coordinates-third-requires-clause-contour_in_bounds c =
    going_room (going_more (going_none c.args.at c.args.text.now _ (outline_words c.args.contour.now c.if-contour-eq0.false) c.requires.contour_in_bounds) c.put-second.ensures)

pub put-requires : goal.put-requires
put-requires c =
    going_room (going_more (going_more (going_none c.args.at c.args.text.now _ (outline_words c.args.contour.now c.if-contour-eq0.false) c.requires.contour_in_bounds) c.put-second.ensures) c.put_coordinates-third.ensures)

pub returns : goal.returns
returns c =
    going_all (going_more (going_more (going_more (going_none c.args.at c.args.text.now _ (outline_words c.args.contour.now c.if-contour-eq0.false) c.requires.contour_in_bounds) c.put-second.ensures) c.put_coordinates-third.ensures) c.put.ensures)
