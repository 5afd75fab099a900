-- `jobtext::inner::lines::put` meets its contract: the lines that are due are put from where the loop has come to.
use mathlib.Core.Path.{refl, sym, ◌∙◌, subst}
use mathlib.Core.List.{List}
use Prim.Native.Nat.{◌+◌, ◌≤◌}
use native.Mathlib.Omega.{arith}
use lib.ListN.{length}
use lib.Seq.{length-take-le}
use lib.IntN.{ℤ}
use Rattle.setfile.specs.Entries.{entry}
use Rattle.setfile.proofs.ContourLaws.{whole_small, whole_ends}
use Rattle.report.specs.inside.Lines.{Put}
use Rattle.report.proofs.LinesLaws.{contour_read}
use Rattle.jobtext.specs.Text.{line}
use Rattle.jobtext.proofs.LineLaws.{lining_none, lining_there, lining_on, lining_room, lining_more, lining_all}
use Rattle.jobtext.proofs.inner.lines.put.Goals as goal

pub loop-init : goal.loop-init
loop-init c =
    (lining_none _ _ _ _ _ c.requires.dumpable.readable c.requires.bytes_in_bounds, refl)

pub header_at-h-requires : goal.header_at-h-requires
header_at-h-requires c = ((lining_there c.loop.invariant.0 c.loop-test.true).here, (lining_there c.loop.invariant.0 c.loop-test.true).headed)

pub put-requires : goal.put-requires
put-requires c =
    ((lining_there c.loop.invariant.0 c.loop-test.true), c.header_at-h.ensures, lining_on c.loop.invariant.0 c.loop-test.true, omega (arith, (whole_small (lining_there c.loop.invariant.0 c.loop-test.true) _ c.header_at-h.ensures).0, c.requires.dumpable.roomy, c.loop.invariant.1))

pub overflow_mul-h : goal.overflow_mul-h
overflow_mul-h c =
    omega (arith, (whole_small (lining_there c.loop.invariant.0 c.loop-test.true) _ c.header_at-h.ensures).0)

pub slice_bounds-put_line-end : goal.slice_bounds-put_line-end
slice_bounds-put_line-end c =
    omega (arith, (whole_small (lining_there c.loop.invariant.0 c.loop-test.true) _ c.header_at-h.ensures).0, c.requires.dumpable.roomy, c.loop.invariant.1, c.put.auto.out)

pub slice_bounds-put_line-end-in-loop : goal.slice_bounds-put_line-end-in-loop
slice_bounds-put_line-end-in-loop c =
    sym (length-take-le _ _ (omega (arith, (whole_small (lining_there c.loop.invariant.0 c.loop-test.true) _ c.header_at-h.ensures).0, c.requires.dumpable.roomy, c.loop.invariant.1, c.put.auto.out)))

pub put_line-behind-requires : goal.put_line-behind-requires
put_line-behind-requires c =
    let l = c.loop in
    subst (λ (w : List ℤ). l.behind + length (line (entry c.header_at-h.result.begins w)) ≤ length l.text) (sym (contour_read c.args.second c.args.bytes.now c.loop.at _ c.header_at-h.ensures c.loop.points c.put.ensures))
    (lining_room l.invariant.0 c.loop-test.true _ c.header_at-h.ensures)

pub size-at-requires : goal.size-at-requires
size-at-requires c =
    whole_small (lining_there c.loop.invariant.0 c.loop-test.true) _ c.header_at-h.ensures

pub overflow_add-at : goal.overflow_add-at
overflow_add-at c =
    let w = lining_there c.loop.invariant.0 c.loop-test.true in
    omega (arith, whole_ends w _ c.header_at-h.ensures _ c.size-at.ensures, w.here.short)

pub loop-preserved : goal.loop-preserved
loop-preserved c =
    let l = c.loop in
    let put =
    subst (λ (w : List ℤ). Put l.behind (line (entry c.header_at-h.result.begins w)) l.text c.put_line-behind.result c.put_line-behind.new.text) (contour_read c.args.second c.args.bytes.now c.loop.at _ c.header_at-h.ensures c.loop.points c.put.ensures)
    c.put_line-behind.ensures in
    (lining_more l.invariant.0 c.loop-test.true _ c.header_at-h.ensures put _ c.size-at.ensures, c.put.auto.out ∙ l.invariant.1)

pub shape_of-points : goal.shape_of-points
shape_of-points c = c.loop.invariant.1

pub shape_of-text : goal.shape_of-text
shape_of-text c = c.loop.invariant.0.going.long

pub returns : goal.returns
returns c = lining_all c.loop.invariant.0 c.loop-test.false
