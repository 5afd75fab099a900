-- `vertices::inner::settling::settle_all` meets its contract: the marks of the contours passed are theirs.
use mathlib.Core.Path.{◌≡◌, sym, ◌∙◌, ap, subst}
use mathlib.Core.List.{List, ◌++◌, append_assoc}
use Prim.Native.Nat.{ℕ, ◌+◌, ◌*◌, ◌-◌, ◌≤◌}
use native.Mathlib.Omega.{arith}
use borrow.Rule.Slice.PartMut.{mid_of, post_of, put_mid, mid_len, same_len_mid}
use lib.ListN.{length, take, drop, length-append}
use lib.Seq.{length-take-le, take_at}
use lib.IntN.{ℤ}
use Rattle.grid.specs.Domain.{Contour}
use Rattle.setfile.proofs.ContourLaws.{whole_small, whole_ends}
use Rattle.report.specs.Listing.{rule_of}
use Rattle.vertices.specs.Vertices.{kept_of}
use Rattle.vertices.proofs.AlongLaws.{along_there, along_part}
use Rattle.vertices.proofs.SettleLaws.{settling_none, settling_room, settling_contour, settling_more, settling_all}
use Rattle.vertices.proofs.inner.settling.settle_all.Goals as goal

-- a part of n numbers, by its ends
part_of : {A : Type 0} (row : List A) (start k : ℕ) {here : List A} → take (2 * k) (drop (2 * start) row) ≡ here → take (2 * (start + k) - 2 * start) (drop (2 * start) row) ≡ here
part_of row start k e =
    let n : 2 * (start + k) - 2 * start ≡ 2 * k = omega arith in
    ap (λ (m : ℕ). take m (drop (2 * start) row)) n ∙ e

-- a part of the marks has k of them
marks : (mark : List ℕ) (start k : ℕ) → 2 * start + 2 * k ≤ 2 * length mark → length (mid_of start (start + k - start) mark) ≡ k
marks mark start k h =
    let e : start + k - start ≡ k = omega arith in
    mid_len start (start + k) mark (omega arith) ∙ e

pub loop-i-init : goal.loop-i-init
loop-i-init c = settling_none _ c.requires.listable.0 c.requires.listable.1

pub header_at-h-requires : goal.header_at-h-requires
header_at-h-requires c =
    let there = along_there c.loop-i.invariant.along c.loop-i-test.true in
    (there.here, there.headed)

pub overflow_add-end : goal.overflow_add-end
overflow_add-end c =
    let r = settling_room c.loop-i.invariant c.requires.listable.0 c.requires.listable.1 c.requires.marked c.loop-i-test.true _ c.header_at-h.ensures in
    omega arith

pub overflow_mul-end : goal.overflow_mul-end
overflow_mul-end c =
    let r = settling_room c.loop-i.invariant c.requires.listable.0 c.requires.listable.1 c.requires.marked c.loop-i-test.true _ c.header_at-h.ensures in
    omega arith

pub slice_bounds-settle-end : goal.slice_bounds-settle-end
slice_bounds-settle-end c =
    let r = settling_room c.loop-i.invariant c.requires.listable.0 c.requires.listable.1 c.requires.marked c.loop-i-test.true _ c.header_at-h.ensures in
    omega arith

pub settle-requires-clause-contour : goal.settle-requires-clause-contour
settle-requires-clause-contour c =
    let l = c.loop-i in
    let k = c.header_at-h.result.count in
    let r = settling_room l.invariant c.requires.listable.0 c.requires.listable.1 c.requires.marked c.loop-i-test.true _ c.header_at-h.ensures in
    let m = marks l.mark l.start k (omega arith) in
    let part = part_of c.args.points.now l.start k (along_part l.invariant.along c.loop-i-test.true _ c.header_at-h.ensures) in
    subst (λ (w : List ℤ). Contour w (length (mid_of l.start (l.start + k - l.start) l.mark))) (sym part)
    (subst (Contour _) (sym m) (settling_contour l.invariant c.loop-i-test.true _ c.header_at-h.ensures))

pub size-at-requires : goal.size-at-requires
size-at-requires c = whole_small (along_there c.loop-i.invariant.along c.loop-i-test.true) _ c.header_at-h.ensures

pub overflow_add-at : goal.overflow_add-at
overflow_add-at c =
    let w = along_there c.loop-i.invariant.along c.loop-i-test.true in
    omega (arith, whole_ends w _ c.header_at-h.ensures _ c.size-at.ensures, w.here.short)

pub loop-i-preserved : goal.loop-i-preserved
loop-i-preserved c =
    let l = c.loop-i in
    let k = c.header_at-h.result.count in
    let new = c.settle.new.mark in
    let r = settling_room l.invariant c.requires.listable.0 c.requires.listable.1 c.requires.marked c.loop-i-test.true _ c.header_at-h.ensures in
    let part = part_of c.args.points.now l.start k (along_part l.invariant.along c.loop-i-test.true _ c.header_at-h.ensures) in
    let before = length-take-le l.start l.mark (omega arith) in
    settling_more l.invariant c.loop-i-test.true _ c.header_at-h.ensures new (put_mid l.start (l.start + k - l.start) l.mark new)
    (c.settle.ensures ∙ ap (kept_of (rule_of c.args.second)) part)
    (ap (take (l.start + k)) (sym (append_assoc (take l.start l.mark) new (post_of l.start (l.start + k - l.start) l.mark)))
    ∙ take_at (take l.start l.mark ++ new) _ (l.start + k) (omega (arith, length-append (take l.start l.mark) new, before, c.settle.auto.mark, marks l.mark l.start k (omega arith))))
    (same_len_mid l.start (l.start + k - l.start) l.mark new c.settle.auto.mark) _ c.size-at.ensures

pub returns : goal.returns
returns c = settling_all c.loop-i.invariant c.loop-i-test.false (omega (arith, c.requires.marked.each, c.loop-i.invariant.long))
