-- `report::inner::lines::put` meets its contract: the lines that are due are put from where the loop has come to.
use mathlib.Core.Path.{refl, sym, ◌∙◌, subst}
use mathlib.Core.List.{List}
use Prim.Native.Nat.{◌+◌, ◌≤◌}
use native.Mathlib.Omega.{arith}
use lib.ListN.{length}
use lib.Seq.{length-take-le}
use lib.IntN.{ℤ}
use Rattle.setfile.proofs.ContourLaws.{whole_small, whole_ends}
use Rattle.report.specs.Listing.{line, rule_of}
use Rattle.report.specs.inside.Lines.{Put, Cleanable}
use Rattle.report.proofs.LinesLaws.{contour_read, lining_none, lining_there, lining_on, lining_roomy, lining_cleanable, lining_room, lining_more, lining_all}
use Rattle.report.proofs.inner.lines.put.Goals as goal

pub loop-i-init : goal.loop-i-init
loop-i-init c =
    (lining_none _ _ _ _ _ c.requires.listable.0 c.requires.bytes_in_bounds, refl, refl, refl, refl)

pub header_at-h-requires : goal.header_at-h-requires
header_at-h-requires c =
    let w = lining_there c.loop-i.invariant.0 c.loop-i-test.true in (w.here, w.headed)

pub put-requires : goal.put-requires
put-requires c =
    let l = c.loop-i in
    let p = c.requires.listable.1 in
    let head = c.header_at-h.ensures in
    let w = lining_there l.invariant.0 c.loop-i-test.true in (
      w,
      head,
      lining_on l.invariant.0 c.loop-i-test.true,
      omega (arith, lining_roomy l.invariant.0 c.loop-i-test.true _ head l.points (omega (arith, p.in_points, l.invariant.1))),
    )

pub overflow_mul-contour : goal.overflow_mul-contour
overflow_mul-contour c =
    omega (arith, (whole_small (lining_there c.loop-i.invariant.0 c.loop-i-test.true) _ c.header_at-h.ensures).0)

pub slice_bounds-contour-end : goal.slice_bounds-contour-end
slice_bounds-contour-end c =
    let l = c.loop-i in
    let p = c.requires.listable.1 in
    omega (arith, lining_roomy l.invariant.0 c.loop-i-test.true _ c.header_at-h.ensures l.points (omega (arith, p.in_points, l.invariant.1)), c.put.auto.out)

pub slice_bounds-contour-end-in-loop-i : goal.slice_bounds-contour-end-in-loop-i
slice_bounds-contour-end-in-loop-i c =
    let l = c.loop-i in
    let p = c.requires.listable.1 in
    sym (length-take-le _ _ (omega (arith, lining_roomy l.invariant.0 c.loop-i-test.true _ c.header_at-h.ensures l.points (omega (arith, p.in_points, l.invariant.1)), c.put.auto.out)))

pub put-behind-requires : goal.put-behind-requires
put-behind-requires c =
    let l = c.loop-i in
    let p = c.requires.listable in
    let s = c.args in
    let met = contour_read s.second s.bytes.now l.at _ c.header_at-h.ensures l.points c.put.ensures in
    let cleanable =
    lining_cleanable l.invariant.0 c.loop-i-test.true l.next l.prev l.mark
    (omega (arith, p.1.in_next, l.invariant.2)) (omega (arith, p.1.in_prev, l.invariant.3)) (omega (arith, p.1.in_mark, l.invariant.4)) in record {
      cleanable = subst (λ (w : List ℤ). Cleanable w l.next l.prev l.mark) (sym met) cleanable;
      contour_in_bounds = subst (λ (w : List ℤ). l.behind + length (line (rule_of s.second) (l.i + 1) w) ≤ length l.text) (sym met) (lining_room l.invariant.0 c.loop-i-test.true);
    }

pub size-at-requires : goal.size-at-requires
size-at-requires c =
    whole_small (lining_there c.loop-i.invariant.0 c.loop-i-test.true) _ c.header_at-h.ensures

pub overflow_add-at : goal.overflow_add-at
overflow_add-at c =
    let w = lining_there c.loop-i.invariant.0 c.loop-i-test.true in
    omega (arith, whole_ends w _ c.header_at-h.ensures _ c.size-at.ensures, w.here.short)

pub loop-i-preserved : goal.loop-i-preserved
loop-i-preserved c =
    let l = c.loop-i in
    let s = c.args in
    let met = contour_read s.second s.bytes.now l.at _ c.header_at-h.ensures l.points c.put.ensures in
    let put =
    subst (λ (w : List ℤ). Put l.behind (line (rule_of s.second) (l.i + 1) w) l.text c.put-behind.result c.put-behind.new.text) met
    c.put-behind.ensures in (
      lining_more l.invariant.0 c.loop-i-test.true put _ c.header_at-h.ensures _ c.size-at.ensures,
      c.put.auto.out ∙ l.invariant.1,
      c.put-behind.auto.next ∙ l.invariant.2,
      c.put-behind.auto.prev ∙ l.invariant.3,
      c.put-behind.auto.mark ∙ l.invariant.4,
    )

pub shape_of-points : goal.shape_of-points
shape_of-points c = c.loop-i.invariant.1

pub shape_of-next : goal.shape_of-next
shape_of-next c = c.loop-i.invariant.2

pub shape_of-prev : goal.shape_of-prev
shape_of-prev c = c.loop-i.invariant.3

pub shape_of-mark : goal.shape_of-mark
shape_of-mark c = c.loop-i.invariant.4

pub shape_of-text : goal.shape_of-text
shape_of-text c = c.loop-i.invariant.0.going.long

pub returns : goal.returns
returns c = lining_all c.loop-i.invariant.0 c.loop-i-test.false
