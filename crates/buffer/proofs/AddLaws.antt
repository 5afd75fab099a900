-- What an addition answers and leaves.
use mathlib.Core.Path.{◌≡◌, refl, sym, ◌∙◌, ap}
use mathlib.Core.Bool.{Bool, true, false, ◌&&◌}
use mathlib.Core.List.{List, [], ◌∷◌, ◌++◌, map}
use Prim.Native.Nat.{ℕ, ◌+◌, ◌≤◌, ◌<◌, ◌^◌}
use native.Mathlib.Omega.{arith}
use lib.Dec.{leb}
use lib.ListN.{length, length-append}
use lib.IntN.{ℤ}
use Rattle.grid.specs.Limits.{most}
use Rattle.std.proofs.Common.{Err}
use Rattle.replies.specs.declared.refusal.Refusal.{Refusal}
use Rattle.replies.specs.Refusals.{number}
use Rattle.replies.specs.Ladder.{first_of}
use Rattle.grid.specs.Domain.{count}
use Rattle.buffer.specs.declared.answer.Packed.{Packed}
use Rattle.buffer.specs.declared.ranges.Span.{Span}
use Rattle.buffer.specs.Spans.{spans, rows, sound, moved}
use Rattle.buffer.specs.inside.Ranges.{Movable}
use Rattle.buffer.specs.Sets.{whole, every}
use Rattle.rows.specs.Rows.{front}
use Rattle.buffer.specs.Refusals.{both}
use Rattle.buffer.specs.Answers.{packed, packed_as, leaving}
use Rattle.buffer.specs.Contours as C
use Rattle.buffer.specs.Shapes as S
use Rattle.buffer.proofs.SpanLaws.{movable, one_movable}
use Rattle.buffer.proofs.AnswerLaws.{Fits, stored_not, packing_no_room, packing_fits, packing_done, contours_no_room, contours_fit, contours_done}
use Rattle.buffer.proofs.PackLaws.{Joined, joined, SoundParts, sound_parts, count-append, added-length}

-- a contour added to a contour set
module _ (p : List ℤ) (cs : List (List ℕ)) (more : List ℤ) where
  enlarged : List Span
  enlarged = spans cs ++ moved (count p) (whole more) ∷ []

  enlarged-length : length cs + 1 ≡ length enlarged
  unfolding enlarged
  enlarged-length = added-length cs ((0 ∷ count more ∷ []) ∷ []) (count p)

-- nothing is refused of the set and the contour, whose soundness is told
module _ (p : List ℤ) (cs : List (List ℕ)) (more out : List ℤ) (records : List (List ℕ)) (s : Bool) (q : s ≡ sound (spans cs) (count p)) where
  asked_for : first_of (both p more s) ≡ first_of (both p more (sound (spans cs) (count p)))
  asked_for = ap (λ (b : Bool). first_of (both p more b)) q

  pub one_more_refused : (r : Refusal) → number r ≡ first_of (both p more s) → leaving (packed_as (Err r)) out records [] ≡ C.with_one_more p cs more out records
  one_more_refused r e = stored_not _ _ [] out records [] _ r (e ∙ asked_for)

  module _ (e : 0 ≡ first_of (both p more s)) where
    accepted : Joined p more (sound (spans cs) (count p))
    accepted = joined p more _ 0 (e ∙ asked_for) refl

    abbrev Roomy : Bool → Type 0
    Roomy b = (leb (length p + length more) (length out) && leb (length cs + 1) (length records)) ≡ b

    pub one_more_no_room : Roomy false → leaving (packed 5 0 0 0) out records [] ≡ C.with_one_more p cs more out records
    unfolding enlarged
    one_more_no_room f =
        contours_no_room (p ++ more) (enlarged p cs more) out records _ _ (sym (length-append p more)) (enlarged-length p cs more)
        (both p more (sound (spans cs) (count p))) tt (e ∙ asked_for) f

    module _ (f : Roomy true) where
      fits : Fits (length p + length more) (length cs + 1) 0 out records []
      fits =
          contours_fit (p ++ more) (enlarged p cs more) out records _ _ (sym (length-append p more)) (enlarged-length p cs more)
          (both p more (sound (spans cs) (count p))) tt (e ∙ asked_for) f

      pub one_more_points : length p + length more ≤ length out
      one_more_points = fits.points_in

      pub one_more_ranges : (length cs + 1 ≤ length records) × Movable cs 0 × Movable ((0 ∷ count more ∷ []) ∷ []) (count p)
      unfolding most
      one_more_ranges =
          let a = accepted in
          (fits.contours_in, movable cs (count p) 0 a.sound (omega (arith, a.few)), one_movable (count more) (count p) (omega (arith, a.few)))

      pub one_more_done : (o : List ℤ) (d : List (List ℕ)) → o ≡ front (p ++ more) out
          → d ≡ front (rows (spans cs ++ moved (count p) (whole more) ∷ [])) records
          → leaving (packed 0 (count p + count more) (length cs + 1) 0) o d [] ≡ C.with_one_more p cs more out records
      unfolding enlarged
      one_more_done o d h i =
          contours_done (p ++ more) (enlarged p cs more) out records _ _ (sym (length-append p more)) (enlarged-length p cs more)
          (both p more (sound (spans cs) (count p))) tt (e ∙ asked_for) f _ o d (count-append p more accepted.even) h i

-- a shape added to a shape set
module _ (p : List ℤ) (cs ss mcs : List (List ℕ)) where
  all_contours : List Span
  all_contours = spans cs ++ map (moved (count p)) (spans mcs)

  all_shapes : List Span
  all_shapes = spans ss ++ moved (length cs) (every mcs) ∷ []

  contours-length : length cs + length mcs ≡ length all_contours
  unfolding all_contours
  contours-length = added-length cs mcs (count p)

  shapes-length : length ss + 1 ≡ length all_shapes
  unfolding all_shapes
  shapes-length = added-length ss ((0 ∷ length mcs ∷ []) ∷ []) (length cs)

-- nothing is refused of the set and the shape, whose soundness is told
module _ (p : List ℤ) (cs ss : List (List ℕ)) (more : List ℤ) (mcs : List (List ℕ)) (out : List ℤ) (records groups : List (List ℕ))
    (s : Bool) (q : s ≡ S.both_sound p cs ss more mcs) where
  both_asked : first_of (both p more s) ≡ first_of (both p more (S.both_sound p cs ss more mcs))
  both_asked = ap (λ (b : Bool). first_of (both p more b)) q

  pub shape_more_refused : (r : Refusal) → number r ≡ first_of (both p more s) → leaving (packed_as (Err r)) out records groups ≡ S.with_one_more p cs ss more mcs out records groups
  shape_more_refused r e = stored_not _ _ _ out records groups _ r (e ∙ both_asked)

  module _ (e : 0 ≡ first_of (both p more s)) where
    shape_accepted : Joined p more (S.both_sound p cs ss more mcs)
    shape_accepted = joined p more _ 0 (e ∙ both_asked) refl

    parts : SoundParts p cs ss more mcs
    parts = sound_parts p cs ss more mcs shape_accepted.sound

    abbrev Spacious : Bool → Type 0
    Spacious b = (leb (length p + length more) (length out) && leb (length cs + length mcs) (length records) && leb (length ss + 1) (length groups)) ≡ b

    pub shape_more_no_room : Spacious false → leaving (packed 5 0 0 0) out records groups ≡ S.with_one_more p cs ss more mcs out records groups
    unfolding all_contours all_shapes
    shape_more_no_room f =
        packing_no_room (p ++ more) (all_contours p cs ss mcs) (all_shapes p cs ss mcs) out records groups _ _ _
        (sym (length-append p more)) (contours-length p cs ss mcs) (shapes-length p cs ss mcs)
        (both p more (S.both_sound p cs ss more mcs)) tt (e ∙ both_asked) f

    module _ (f : Spacious true) where
      shape_fits : Fits (length p + length more) (length cs + length mcs) (length ss + 1) out records groups
      shape_fits =
          packing_fits (p ++ more) (all_contours p cs ss mcs) (all_shapes p cs ss mcs) out records groups _ _ _
          (sym (length-append p more)) (contours-length p cs ss mcs) (shapes-length p cs ss mcs)
          (both p more (S.both_sound p cs ss more mcs)) tt (e ∙ both_asked) f

      pub shape_more_points : length p + length more ≤ length out
      shape_more_points = shape_fits.points_in

      pub shape_more_contours : (length cs + length mcs ≤ length records) × Movable cs 0 × Movable mcs (count p)
      unfolding most
      shape_more_contours =
          let few = shape_accepted.few in (
            shape_fits.contours_in,
            movable cs (count p) 0 parts.contours (omega arith),
            movable mcs (count more) (count p) parts.added (omega arith),
          )

      pub shape_more_shapes : length mcs + length cs < 2 ^ 64 → (length ss + 1 ≤ length groups) × Movable ss 0 × Movable ((0 ∷ length mcs ∷ []) ∷ []) (length cs)
      shape_more_shapes h = (shape_fits.shapes_in, movable ss (length cs) 0 parts.shapes (omega arith), one_movable (length mcs) (length cs) h)

      pub shape_more_done : (o : List ℤ) (c d : List (List ℕ)) → o ≡ front (p ++ more) out
          → c ≡ front (rows (spans cs ++ map (moved (count p)) (spans mcs))) records
          → d ≡ front (rows (spans ss ++ moved (length cs) (every mcs) ∷ [])) groups
          → leaving (packed 0 (count p + count more) (length cs + length mcs) (length ss + 1)) o c d ≡ S.with_one_more p cs ss more mcs out records groups
      unfolding all_contours all_shapes
      shape_more_done o c d h i j =
          packing_done (p ++ more) (all_contours p cs ss mcs) (all_shapes p cs ss mcs) out records groups _ _ _
          (sym (length-append p more)) (contours-length p cs ss mcs) (shapes-length p cs ss mcs)
          (both p more (S.both_sound p cs ss more mcs)) tt (e ∙ both_asked) f
          _ o c d (count-append p more shape_accepted.even) h i j
