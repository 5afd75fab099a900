-- `week::inner::counting::add_file` meets its contract: what reading the file answered says what is added.
use mathlib.Core.Path.{◌≡◌, refl, sym, ◌∙◌}
use mathlib.Core.List.{List}
use Prim.Native.Nat.{ℕ}
use native.Mathlib.Omega.{arith}
use lib.ListN.{replicate, length-replicate}
use lib.Seq.{length-take-le}
use lib.IntN.{ℤ, pos}
use Rattle.replies.proofs.RefusalLaws.{refusals_have_numbers}
use Rattle.setfile.specs.declared.answer.Read.{Read}
use Rattle.setfile.specs.Reading.{leaving, outcome}
use Rattle.changes.proofs.ReadLaws.{HasRead, reply_is, few_points, points_in, ranges_in}
use Rattle.week.proofs.CountingLaws.{refused_counted, read_sound, read_counted}
use Rattle.week.proofs.inner.counting.add_file.Goals as goal

-- the rows as they are lent to the reader
abbrev no_points : List ℤ
no_points = replicate 16384 (pos 0)

abbrev no_ranges : List (List ℕ)
no_ranges = replicate 4095 (replicate 2 0)

-- a file is read to them
has_read : {f : List ℕ} {r : Read} {out : List ℤ} {cs ss : List (List ℕ)}
    → leaving r out cs ss ≡ outcome f no_points no_ranges no_ranges → HasRead f no_points no_ranges no_ranges r out cs ss
has_read e = record {
  has = record {
    numbers = length-replicate 16384 (pos 0);
    contours = omega (arith, length-replicate 4095 (replicate {A = ℕ} 2 0));
    shapes = omega (arith, length-replicate 4095 (replicate {A = ℕ} 2 0));
  };
  is = e;
}

pub returns-in-Err : goal.returns-in-Err
returns-in-Err c =
    let s = c.args in
    c.add_refused.ensures ∙ refused_counted s.bytes.now s.f _ (reply_is (has_read c.in-Err.ensures)) (refusals_have_numbers _)

pub overflow_mul-n : goal.overflow_mul-n
overflow_mul-n c = omega (arith, few_points (has_read c.in-Ok.ensures) refl)

pub slice_bounds-points-end : goal.slice_bounds-points-end
slice_bounds-points-end c = points_in (has_read c.in-Ok.ensures) refl

pub slice_bounds-add_set-end : goal.slice_bounds-add_set-end
slice_bounds-add_set-end c = sym (length-take-le _ _ (points_in (has_read c.in-Ok.ensures) refl))

pub slice_bounds-ranges-end : goal.slice_bounds-ranges-end
slice_bounds-ranges-end c = ranges_in (has_read c.in-Ok.ensures) refl

pub slice_bounds-add_set-end-2 : goal.slice_bounds-add_set-end-2
slice_bounds-add_set-end-2 c = sym (length-take-le _ _ (ranges_in (has_read c.in-Ok.ensures) refl))

pub add_set-requires : goal.add_set-requires
add_set-requires c = read_sound (has_read c.in-Ok.ensures) refl

pub returns : goal.returns
returns c = c.add_set.ensures ∙ read_counted (has_read c.in-Ok.ensures) refl c.args.f
