-- `setfile::inner::filling::ranges` meets its contract: the rest of the file makes what is still to be written.
use Rattle.std.proofs.Common.{◌≡◌, ◌≤◌, length, refl, arith}
use Rattle.buffer.specs.Spans.{laid}
use Rattle.setfile.specs.inside.Reading.{contained}
use Rattle.setfile.proofs.ContourLaws.{whole_small, whole_ends}
use Rattle.setfile.proofs.FillLaws.{filling_all, filling_done, contours_made, contours_made_length, contour_there, contour_counted, contours_room, contours_more}
use Rattle.setfile.proofs.inner.filling.ranges.Goals as goal

pub loop-i-init : goal.loop-i-init
loop-i-init c =
    let f = c.args.bytes.now in
    let room : length (contours_made 0 (contained f)) ≤ length c.args.records.now =
    omega (arith, contours_made_length 0 (contained f), c.requires.1) in
    (omega arith, filling_all (contours_made 0) c.args.second f c.args.n c.args.records.now c.requires.0 room)

pub header_at-h-requires : goal.header_at-h-requires
header_at-h-requires c = let w = contour_there c.loop-i.invariant.1 c.loop-i-test.true in (w.here, w.headed)

pub overflow_add-end : goal.overflow_add-end
overflow_add-end c =
    let w = contour_there c.loop-i.invariant.1 c.loop-i-test.true in
    omega (arith, (whole_small w _ c.header_at-h.ensures).0, c.loop-i.invariant.0, w.here.within, w.here.short)

pub bounds-records-i : goal.bounds-records-i
bounds-records-i c = omega (arith, contours_room _ c.loop-i.invariant.1 c.loop-i-test.true)

pub size-at-requires : goal.size-at-requires
size-at-requires c = whole_small (contour_there c.loop-i.invariant.1 c.loop-i-test.true) _ c.header_at-h.ensures

pub overflow_add-at : goal.overflow_add-at
overflow_add-at c =
    let w = contour_there c.loop-i.invariant.1 c.loop-i-test.true in
    omega (arith, whole_ends w _ c.header_at-h.ensures _ c.size-at.ensures, w.here.short)

pub loop-i-preserved : goal.loop-i-preserved
loop-i-preserved c =
    let l = c.loop-i in
    let more = c.loop-i-test.true in (
      omega (arith, l.invariant.0, contour_counted l.invariant.1 more _ c.header_at-h.ensures _ c.size-at.ensures),
      contours_more _ l.invariant.1 more _ c.header_at-h.ensures _ c.size-at.ensures,
    )

pub returns : goal.returns
unfolding laid
returns c =
    let done : c.loop-i.i ≡ c.args.n = omega arith in
    filling_done (contours_made c.loop-i.start) c.loop-i.invariant.1 done refl
