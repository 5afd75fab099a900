-- `tidy::inner::tidying::write` meets its contract: what was cleaned stands in front of the rows, and is written.
use mathlib.Core.Path.{sym}
use mathlib.Core.List.{List}
use Prim.Native.Nat.{ℕ}
use native.Mathlib.Omega.{arith}
use lib.ListN.{replicate, length-replicate}
use lib.Seq.{length-take-le}
use lib.IntN.{ℤ, pos}
use Rattle.tidy.proofs.SetLaws.{Roomy, HasCleaned, cleanable, no_scratch, points_in, contours_in, shapes_in, points_are, contours_are, shapes_are}
use Rattle.tidy.proofs.inner.tidying.write.Goals as goal
use Rattle.tidy.proofs.inner.tidying.write.Goals.{After-sweep_shapes-total}

-- the rows as they are lent to the cleaning
abbrev no_points : List ℤ
no_points = replicate 16384 (pos 0)

abbrev no_ranges : List (List ℕ)
no_ranges = replicate 4095 (replicate 2 0)

roomy : Roomy no_points no_ranges no_ranges
roomy =
    let n = length-replicate 4095 (replicate {A = ℕ} 2 0) in
    record { numbers = omega (arith, length-replicate {A = ℤ} 16384 (pos 0)); contours = omega (arith, n); shapes = omega (arith, n) }

cleaned : (c : After-sweep_shapes-total) →
    let s = c.args in
    HasCleaned s.points.now s.contours.now s.shapes.now s.rule no_points no_ranges no_ranges c.sweep_shapes-total.result
    c.sweep_shapes-total.new.out c.sweep_shapes-total.new.records c.sweep_shapes-total.new.groups
cleaned c = record { set = c.requires.tidiable; has = roomy; is = c.sweep_shapes-total.ensures.groups_after }

pub sweep_shapes-total-requires : goal.sweep_shapes-total-requires
sweep_shapes-total-requires c = cleanable c.requires.tidiable roomy no_scratch

pub overflow_mul-n : goal.overflow_mul-n
overflow_mul-n c = omega (arith, points_in (cleaned (goal.at.overflow_mul-n c).After-sweep_shapes-total), c.sweep_shapes-total.auto.out, length-replicate {A = ℤ} 16384 (pos 0))

pub slice_bounds-kept-end : goal.slice_bounds-kept-end
slice_bounds-kept-end c = points_in (cleaned (goal.at.slice_bounds-kept-end c).After-sweep_shapes-total)

pub slice_bounds-written-end : goal.slice_bounds-written-end
slice_bounds-written-end c = sym (length-take-le _ _ (points_in (cleaned (goal.at.slice_bounds-written-end c).After-sweep_shapes-total)))

pub slice_bounds-ranges-end : goal.slice_bounds-ranges-end
slice_bounds-ranges-end c = contours_in (cleaned (goal.at.slice_bounds-ranges-end c).After-sweep_shapes-total)

pub slice_bounds-written-end-2 : goal.slice_bounds-written-end-2
slice_bounds-written-end-2 c = sym (length-take-le _ _ (contours_in (cleaned (goal.at.slice_bounds-written-end-2 c).After-sweep_shapes-total)))

pub slice_bounds-groups-end : goal.slice_bounds-groups-end
slice_bounds-groups-end c = shapes_in (cleaned (goal.at.slice_bounds-groups-end c).After-sweep_shapes-total)

pub slice_bounds-written-end-3 : goal.slice_bounds-written-end-3
slice_bounds-written-end-3 c = sym (length-take-le _ _ (shapes_in (cleaned (goal.at.slice_bounds-written-end-3 c).After-sweep_shapes-total)))

pub returns : goal.returns
returns c =
    let done = cleaned (goal.at.returns c).After-sweep_shapes-total in
    rw (points_are done, contours_are done, shapes_are done) at c.written.ensures
