-- `setfile::inner::filling::begun_shapes` meets its contract: the shape that is met is written where the next begins, and the last at the end.
use Rattle.std.proofs.Common.{◌≡◌, arith}
use Rattle.setfile.proofs.ContourLaws.{whole_small, whole_ends}
use Rattle.setfile.proofs.RestLaws.{first_whole}
use Rattle.setfile.proofs.FillLaws.{contour_there}
use Rattle.setfile.proofs.ShapeFillLaws.{shapes_room, shapes_next, shapes_done, shapes_first}
use Rattle.setfile.proofs.inner.filling.begun_shapes.Goals as goal

pub header_at-first-requires : goal.header_at-first-requires
header_at-first-requires c = let w = first_whole c.requires.0 c.requires.1 in (w.here, w.headed)

pub size-at-requires : goal.size-at-requires
size-at-requires c = whole_small (first_whole c.requires.0 c.requires.1) _ c.header_at-first.ensures

pub overflow_add-at : goal.overflow_add-at
overflow_add-at c =
    let w = first_whole c.requires.0 c.requires.1 in
    omega (arith, whole_ends w _ c.header_at-first.ensures _ c.size-at.ensures, w.here.short)

pub loop-i-init : goal.loop-i-init
loop-i-init c =
    let s = c.args in
    let p = c.requires in
    (omega arith, shapes_first s.second s.bytes.now s.n s.groups.now p.0 p.1 p.2 _ c.header_at-first.ensures _ c.size-at.ensures)

pub header_at-h-requires : goal.header_at-h-requires
header_at-h-requires c = let w = contour_there c.loop-i.invariant.1 c.loop-i-test.true in (w.here, w.headed)

pub begin-shape-requires : goal.begin-shape-requires
begin-shape-requires c = shapes_room _ c.loop-i.invariant.1 c.loop-i.invariant.0

pub size-at-requires-in-loop-i : goal.size-at-requires-in-loop-i
size-at-requires-in-loop-i c = whole_small (contour_there c.loop-i.invariant.1 c.loop-i-test.true) _ c.header_at-h.ensures

pub overflow_add-at-in-loop-i : goal.overflow_add-at-in-loop-i
overflow_add-at-in-loop-i c =
    let w = contour_there c.loop-i.invariant.1 c.loop-i-test.true in
    omega (arith, whole_ends w _ c.header_at-h.ensures _ c.size-at-in-loop-i.ensures, w.here.short)

pub loop-i-preserved : goal.loop-i-preserved
loop-i-preserved c =
    let l = c.loop-i in
    let e = c.begin-shape.ensures in
    let next = shapes_next _ l.invariant.1 l.invariant.0 c.loop-i-test.true _ c.header_at-h.ensures _ c.size-at-in-loop-i.ensures _ _ e.0 e.1 in
    next

pub bounds-groups-k : goal.bounds-groups-k
bounds-groups-k c = shapes_room _ c.loop-i.invariant.1 c.loop-i.invariant.0

pub returns : goal.returns
returns c =
    let done : c.loop-i.i ≡ c.args.n = omega arith in
    shapes_done _ c.loop-i.invariant.1 c.loop-i.invariant.0 done
