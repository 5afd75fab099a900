-- `changes::inner::comparing::tell` meets its contract: what reading either file answered says what is put.
use mathlib.Core.Path.{◌≡◌, refl, sym, ap}
use mathlib.Core.List.{List}
use Prim.Native.Nat.{ℕ, ◌≤◌}
use native.Mathlib.Omega.{arith}
use lib.ListN.{length, replicate, length-replicate}
use lib.Seq.{length-take-le}
use lib.IntN.{ℤ}
use lib.IntN.ℤ.{pos}
use Rattle.replies.proofs.RefusalLaws.{refusals_have_numbers}
use Rattle.setfile.specs.declared.answer.Read.{Read}
use Rattle.setfile.specs.Reading.{leaving, outcome}
use Rattle.changes.proofs.ReadLaws.{HasRead, reply_is, accepted_file, shapes_long, few_points, points_in, ranges_in}
use Rattle.changes.proofs.ChangeLaws.{first_told, second_told, changes-length, put_told, comparable, changes_are}
use Rattle.changes.proofs.inner.comparing.tell.Goals as goal

-- the rows as they are lent to the reader
abbrev no_points : List ℤ
no_points = replicate 16384 (pos 0)

abbrev no_ranges : List (List ℕ)
no_ranges = replicate 4095 (replicate 2 0)

ranges_room : 4095 ≤ length no_ranges
ranges_room = omega (arith, length-replicate 4095 (replicate {A = ℕ} 2 0))

-- a file is read to them, and its shapes to a row that is as long
has_read : {f : List ℕ} {ss : List (List ℕ)} {r : Read} {out : List ℤ} {cs' ss' : List (List ℕ)} → 4095 ≤ length ss
    → leaving r out cs' ss' ≡ outcome f no_points no_ranges ss → HasRead f no_points no_ranges ss r out cs' ss'
has_read h e = record { has = record { numbers = length-replicate 16384 (pos 0); contours = ranges_room; shapes = h }; is = e }

pub put_refused-requires : goal.put_refused-requires
put_refused-requires c =
    let f = c.args.first.now in
    let g = c.args.second.now in
    omega (arith, c.requires, rw (first_told f g (reply_is (has_read ranges_room c.in-Err.ensures)) (refusals_have_numbers _)) at (changes-length f g))

pub returns-in-Err : goal.returns-in-Err
returns-in-Err c =
    let f = c.args.first.now in
    let g = c.args.second.now in
    put_told f g (first_told f g (reply_is (has_read ranges_room c.in-Err.ensures)) (refusals_have_numbers _)) c.put_refused.ensures

pub put_refused-requires-in-Err-read : goal.put_refused-requires-in-Err-read
put_refused-requires-in-Err-read c =
    let f = c.args.first.now in
    let g = c.args.second.now in
    let one = has_read ranges_room c.in-Ok.ensures in
    let other = has_read (shapes_long one refl) c.in-Err-read.ensures in
    omega (arith, c.requires, rw (second_told f g (accepted_file one refl) (reply_is other) (refusals_have_numbers _)) at (changes-length f g))

pub returns-in-Err-read : goal.returns-in-Err-read
returns-in-Err-read c =
    let f = c.args.first.now in
    let g = c.args.second.now in
    let one = has_read ranges_room c.in-Ok.ensures in
    let other = has_read (shapes_long one refl) c.in-Err-read.ensures in
    put_told f g (second_told f g (accepted_file one refl) (reply_is other) (refusals_have_numbers _)) c.put_refused-in-Err-read.ensures

pub overflow_mul-points : goal.overflow_mul-points
overflow_mul-points c = omega (arith, few_points (has_read ranges_room c.in-Ok.ensures) refl)

pub slice_bounds-points-end : goal.slice_bounds-points-end
slice_bounds-points-end c = points_in (has_read ranges_room c.in-Ok.ensures) refl

pub slice_bounds-put_said-end : goal.slice_bounds-put_said-end
slice_bounds-put_said-end c = sym (length-take-le _ _ (points_in (has_read ranges_room c.in-Ok.ensures) refl))

pub slice_bounds-ranges-end : goal.slice_bounds-ranges-end
slice_bounds-ranges-end c = ranges_in (has_read ranges_room c.in-Ok.ensures) refl

pub slice_bounds-put_said-end-2 : goal.slice_bounds-put_said-end-2
slice_bounds-put_said-end-2 c = sym (length-take-le _ _ (ranges_in (has_read ranges_room c.in-Ok.ensures) refl))

pub overflow_mul-others : goal.overflow_mul-others
overflow_mul-others c =
    let one = has_read ranges_room c.in-Ok.ensures in
    omega (arith, few_points (has_read (shapes_long one refl) c.in-Ok-read.ensures) refl)

pub slice_bounds-others-end : goal.slice_bounds-others-end
slice_bounds-others-end c =
    let one = has_read ranges_room c.in-Ok.ensures in
    points_in (has_read (shapes_long one refl) c.in-Ok-read.ensures) refl

pub slice_bounds-put_said-end-3 : goal.slice_bounds-put_said-end-3
slice_bounds-put_said-end-3 c =
    let one = has_read ranges_room c.in-Ok.ensures in
    sym (length-take-le _ _ (points_in (has_read (shapes_long one refl) c.in-Ok-read.ensures) refl))

pub slice_bounds-other_ranges-end : goal.slice_bounds-other_ranges-end
slice_bounds-other_ranges-end c =
    let one = has_read ranges_room c.in-Ok.ensures in
    ranges_in (has_read (shapes_long one refl) c.in-Ok-read.ensures) refl

pub slice_bounds-put_said-end-4 : goal.slice_bounds-put_said-end-4
slice_bounds-put_said-end-4 c =
    let one = has_read ranges_room c.in-Ok.ensures in
    sym (length-take-le _ _ (ranges_in (has_read (shapes_long one refl) c.in-Ok-read.ensures) refl))

pub put_said-requires-clause-comparable : goal.put_said-requires-clause-comparable
put_said-requires-clause-comparable c =
    let one = has_read ranges_room c.in-Ok.ensures in
    comparable one (has_read (shapes_long one refl) c.in-Ok-read.ensures) refl refl

pub put_said-requires-clause-other_ranges_in_bounds : goal.put_said-requires-clause-other_ranges_in_bounds
put_said-requires-clause-other_ranges_in_bounds c =
    let one = has_read ranges_room c.in-Ok.ensures in
    let other = has_read (shapes_long one refl) c.in-Ok-read.ensures in
    omega (arith, c.requires, ap length (changes_are one other refl refl), changes-length c.args.first.now c.args.second.now)

pub returns : goal.returns
returns c =
    let one = has_read ranges_room c.in-Ok.ensures in
    let other = has_read (shapes_long one refl) c.in-Ok-read.ensures in
    put_told c.args.first.now c.args.second.now (changes_are one other refl refl) c.put_said.ensures
