-- `tidy::inner::tidying::tidy` meets its contract: what reading the file answered says what is made of it.
use mathlib.Core.Path.{◌≡◌, refl, sym, ◌∙◌, ap}
use mathlib.Core.List.{List}
use Prim.Native.Nat.{ℕ, ◌≤◌}
use native.Mathlib.Omega.{arith}
use lib.ListN.{length, replicate, length-replicate}
use lib.Seq.{length-take-le}
use lib.IntN.{ℤ, pos}
use Rattle.std.proofs.Common.{Ok, Err}
use Rattle.setfile.specs.declared.answer.Read.{Read}
use Rattle.setfile.specs.Reading as R
use Rattle.setfile.specs.Reading.{read_as}
use Rattle.changes.proofs.ReadLaws.{HasRead, few_points, points_in, ranges_in, shapes_in_row}
use Rattle.jobpack.specs.Packing.{Packed, outcome}
use Rattle.tidy.specs.Words.{tidying}
use Rattle.tidy.proofs.TidyLaws.{read_refused, read_tidied, read_tidiable}
use Rattle.tidy.proofs.inner.tidying.tidy.Goals as goal

-- the rows as they are lent to the reader
abbrev no_points : List ℤ
no_points = replicate 16384 (pos 0)

abbrev no_ranges : List (List ℕ)
no_ranges = replicate 4095 (replicate 2 0)

ranges_room : 4095 ≤ length no_ranges
ranges_room = omega (arith, length-replicate 4095 (replicate {A = ℕ} 2 0))

done : (r : Read) {f : List ℕ} {out' : List ℤ} {cs' ss' : List (List ℕ)} → R.leaving r out' cs' ss' ≡ R.outcome f no_points no_ranges no_ranges
    → HasRead f no_points no_ranges no_ranges r out' cs' ss'
done r e = record { has = record { numbers = length-replicate 16384 (pos 0); contours = ranges_room; shapes = ranges_room }; is = e }

pub returns-in-Err : goal.returns-in-Err
unfolding tidying
returns-in-Err c =
    let s = c.args in
    let r = c.in-Err.refusal in
    c.refused.ensures ∙ ap (λ (q : Packed). outcome q s.out.now s.text.now) (sym (read_refused r (done (read_as (Err r)) c.in-Err.ensures) s.rule))

pub overflow_mul-n : goal.overflow_mul-n
overflow_mul-n c = omega (arith, few_points (done (read_as (Ok c.in-Ok.carried)) c.in-Ok.ensures) refl)

pub slice_bounds-points-end : goal.slice_bounds-points-end
slice_bounds-points-end c = points_in (done (read_as (Ok c.in-Ok.carried)) c.in-Ok.ensures) refl

pub slice_bounds-tidy_set-end : goal.slice_bounds-tidy_set-end
slice_bounds-tidy_set-end c = sym (length-take-le _ _ (points_in (done (read_as (Ok c.in-Ok.carried)) c.in-Ok.ensures) refl))

pub slice_bounds-ranges-end : goal.slice_bounds-ranges-end
slice_bounds-ranges-end c = ranges_in (done (read_as (Ok c.in-Ok.carried)) c.in-Ok.ensures) refl

pub slice_bounds-tidy_set-end-2 : goal.slice_bounds-tidy_set-end-2
slice_bounds-tidy_set-end-2 c = sym (length-take-le _ _ (ranges_in (done (read_as (Ok c.in-Ok.carried)) c.in-Ok.ensures) refl))

pub slice_bounds-shapes-end : goal.slice_bounds-shapes-end
slice_bounds-shapes-end c = shapes_in_row (done (read_as (Ok c.in-Ok.carried)) c.in-Ok.ensures) refl

pub slice_bounds-tidy_set-end-3 : goal.slice_bounds-tidy_set-end-3
slice_bounds-tidy_set-end-3 c = sym (length-take-le _ _ (shapes_in_row (done (read_as (Ok c.in-Ok.carried)) c.in-Ok.ensures) refl))

pub tidy_set-requires-clause-tidiable : goal.tidy_set-requires-clause-tidiable
tidy_set-requires-clause-tidiable c =
    let r = c.in-Ok.carried in
    read_tidiable r (done (read_as (Ok r)) c.in-Ok.ensures) (λ i h. (c.type_inv.bytes i).fits)

pub returns : goal.returns
unfolding tidying
returns c =
    let s = c.args in
    let r = c.in-Ok.carried in
    c.tidy_set.ensures ∙ ap (λ (q : Packed). outcome q s.out.now s.text.now) (sym (read_tidied r (done (read_as (Ok r)) c.in-Ok.ensures) s.rule))
