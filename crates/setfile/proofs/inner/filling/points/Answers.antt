-- `setfile::inner::filling::points` meets its contract: the rest of the file makes what is still to be written.
use Rattle.std.proofs.Common.{◌≡◌, refl, ap, arith}
use Rattle.buffer.specs.Sets.{joined}
use Rattle.setfile.specs.declared.inner.headers.Header.{Header}
use Rattle.setfile.proofs.ContourLaws.{whole_small, whole_ends}
use Rattle.setfile.proofs.FillLaws.{filling_all, filling_done, points_made, coming, contour_there, points_room, points_more}
use Rattle.setfile.proofs.inner.filling.points.Goals as goal

pub loop-init : goal.loop-init
loop-init c =
    filling_all points_made c.args.second c.args.bytes.now c.args.n c.args.out.now c.requires.0 c.requires.1

pub header_at-h-requires : goal.header_at-h-requires
header_at-h-requires c = let w = contour_there c.loop.invariant c.loop-test.true in (w.here, w.headed)

pub put-requires : goal.put-requires
put-requires c = (
  contour_there c.loop.invariant c.loop-test.true,
  c.header_at-h.ensures,
  (coming c.loop.invariant c.loop-test.true).on,
  omega (arith, points_room c.loop.invariant c.loop-test.true, ap (λ (h : Header). h.count) c.header_at-h.ensures),
)

pub size-at-requires : goal.size-at-requires
size-at-requires c =
    whole_small (contour_there c.loop.invariant c.loop-test.true) _ c.header_at-h.ensures

pub overflow_add-at : goal.overflow_add-at
overflow_add-at c =
    let w = contour_there c.loop.invariant c.loop-test.true in
    omega (arith, whole_ends w _ c.header_at-h.ensures _ c.size-at.ensures, w.here.short)

pub overflow_mul-to : goal.overflow_mul-to
overflow_mul-to c =
    omega (arith, (whole_small (contour_there c.loop.invariant c.loop-test.true) _ c.header_at-h.ensures).0)

pub overflow_add-to : goal.overflow_add-to
overflow_add-to c =
    omega (arith, points_room c.loop.invariant c.loop-test.true, ap (λ (h : Header). h.count) c.header_at-h.ensures, c.loop.invariant.ahead.long, c.well_formed)

pub loop-preserved : goal.loop-preserved
loop-preserved c =
    points_more c.loop.invariant c.loop-test.true _ c.header_at-h.ensures _ c.size-at.ensures _ c.put.ensures

pub returns : goal.returns
unfolding joined
returns c =
    let done : c.loop.counter ≡ c.args.n = omega arith in
    filling_done points_made c.loop.invariant done refl
