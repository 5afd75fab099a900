-- `picture::inner::outlines::put` meets its contract: the paths that are due are put from where the loop has come to.
use mathlib.Core.Path.{◌≡◌, sym, ◌∙◌, ap, subst}
use mathlib.Core.List.{List}
use mathlib.Core.Bool.{true}
use Prim.Native.Nat.{ℕ, ◌+◌, ◌*◌, ◌-◌, ◌≤◌}
use native.Mathlib.Omega.{arith}
use lib.ListN.{length, take, drop}
use lib.IntN.{ℤ}
use Rattle.grid.specs.Limits.{limit, all_on_grid}
use Rattle.setfile.proofs.ContourLaws.{whole_small, whole_ends}
use Rattle.report.specs.inside.Lines.{Put}
use Rattle.picture.specs.Picture.{outline}
use Rattle.vertices.proofs.AlongLaws.{along_there, along_on, along_ends, along_part}
use Rattle.picture.proofs.OutlineLaws.{outlining_none, outlining_before, outlining_room, outlining_more, outlining_empty, outlining_left, outlining_all}
use Rattle.picture.proofs.inner.outlines.put.Goals as goal

-- a part of a row, by its ends
part_of : (row : List ℤ) (start k : ℕ) {here : List ℤ} → take k (drop start row) ≡ here → take (start + k - start) (drop start row) ≡ here
part_of row start k e = let n : start + k - start ≡ k = omega arith in ap (λ (m : ℕ). take m (drop start row)) n ∙ e

pub loop-i-init : goal.loop-i-init
loop-i-init c = outlining_none _ _ _ _ _ _ c.requires.0 c.requires.1 c.requires.2

pub header_at-h-requires : goal.header_at-h-requires
header_at-h-requires c =
    let there = along_there c.loop-i.invariant.along c.loop-i-test.true in
    (there.here, there.headed)

pub put_before-begun-requires : goal.put_before-begun-requires
put_before-begun-requires c = outlining_before c.loop-i.invariant c.loop-i-test.true _ c.header_at-h.ensures

pub overflow_mul-end : goal.overflow_mul-end
overflow_mul-end c = omega (arith, (whole_small (along_there c.loop-i.invariant.along c.loop-i-test.true) _ c.header_at-h.ensures).0)

pub overflow_add-end : goal.overflow_add-end
overflow_add-end c = let e = along_ends c.loop-i.invariant.along c.loop-i-test.true _ c.header_at-h.ensures in omega arith

pub slice_bounds-put_outline-end : goal.slice_bounds-put_outline-end
slice_bounds-put_outline-end c = let e = along_ends c.loop-i.invariant.along c.loop-i-test.true _ c.header_at-h.ensures in omega arith

pub put_outline-behind-requires-clause-contour_value : goal.put_outline-behind-requires-clause-contour_value
put_outline-behind-requires-clause-contour_value c =
    let l = c.loop-i in
    let go = c.loop-i-test.true in
    let part = part_of c.args.points.now l.start (2 * c.header_at-h.result.count) (along_part l.invariant.along go _ c.header_at-h.ensures) in
    subst (λ (w : List ℤ). all_on_grid limit w ≡ true) (sym part) (along_on l.invariant.along go)

pub put_outline-behind-requires-clause-contour_in_bounds : goal.put_outline-behind-requires-clause-contour_in_bounds
put_outline-behind-requires-clause-contour_in_bounds c =
    let l = c.loop-i in
    let go = c.loop-i-test.true in
    let part = part_of c.args.points.now l.start (2 * c.header_at-h.result.count) (along_part l.invariant.along go _ c.header_at-h.ensures) in
    subst (λ (w : List ℤ). c.put_before-begun.result + length (outline w) ≤ length c.put_before-begun.new.text) (sym part)
    (outlining_room l.invariant go _ c.header_at-h.ensures c.put_before-begun.ensures)

pub size-at-requires : goal.size-at-requires
size-at-requires c = whole_small (along_there c.loop-i.invariant.along c.loop-i-test.true) _ c.header_at-h.ensures

pub overflow_add-at : goal.overflow_add-at
overflow_add-at c =
    let w = along_there c.loop-i.invariant.along c.loop-i-test.true in
    omega (arith, whole_ends w _ c.header_at-h.ensures _ c.size-at.ensures, w.here.short)

pub loop-i-preserved : goal.loop-i-preserved
loop-i-preserved c =
    let l = c.loop-i in
    let go = c.loop-i-test.true in
    let part = part_of c.args.points.now l.start (2 * c.header_at-h.result.count) (along_part l.invariant.along go _ c.header_at-h.ensures) in
    outlining_more l.invariant go _ c.header_at-h.ensures c.put_before-begun.ensures
    (subst (λ (w : List ℤ). Put c.put_before-begun.result (outline w) c.put_before-begun.new.text c.put_outline-behind.result c.put_outline-behind.new.text) part
    c.put_outline-behind.ensures) _ c.size-at.ensures

pub returns-then-n-eq0 : goal.returns-then-n-eq0
returns-then-n-eq0 c = outlining_empty c.loop-i.invariant (omega arith) c.if-n-eq0.true

pub put-requires : goal.put-requires
put-requires c = outlining_left c.loop-i.invariant (omega arith) c.if-n-eq0.false

pub returns : goal.returns
returns c = outlining_all c.loop-i.invariant (omega arith) c.if-n-eq0.false c.put.ensures
