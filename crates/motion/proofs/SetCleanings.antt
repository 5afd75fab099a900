-- A shape and shapes that are shifted are cleaned as they were: what is kept is shifted, and all else is the same.
use mathlib.Core.Path.{◌≡◌, refl, ◌∙◌, ap, ap₂}
use mathlib.Core.List.{List, [], ◌++◌}
use Prim.Native.Nat.{ℕ, zero, suc, ◌*◌}
use lib.ListN.{length-map}
use lib.IntN.{ℤ}
use Rattle.replies.specs.Ladder.{first_of}
use Rattle.replies.proofs.LadderLaws.{cleared}
use Rattle.grid.specs.declared.Edge.{Edge}
use Rattle.grid.specs.Domain.{count}
use Rattle.ring.specs.declared.Rule.{Rule}
use Rattle.buffer.specs.Spans.{spans}
use Rattle.buffer.specs.Sets.{joined, contours, shapes, Even}
use Rattle.buffer.specs.Contours.{refusals as contour_refusals}
use Rattle.buffer.specs.Shapes.{refusals as shape_refusals}
use Rattle.sets.specs.Fates.{ShapeFate, Shapes, shape_fate, shapes_fate}
use Rattle.sets.specs.Fates.ShapeFate.{stands, fallen}
use Rattle.sets.specs.Outcome.{Lent, Outcome, lacking, outcome, cleaned_shape, shape_outcome, cleaned_shapes, shapes_outcome}
use Rattle.sets.proofs.LaidLaws.{points_even}
use Rattle.sets.proofs.Kept.{ShapeRight, shape_is_right, kept_even, contours_of_a_set, shapes_of_a_set}
use Rattle.motion.specs.Moves.{shifted, StillOn, set_shifted}
use Rattle.motion.proofs.Rows.{shifted-length}
use Rattle.motion.proofs.Cleanings.{shifted_count, front_is}
use Rattle.motion.proofs.Sets.{all_shifted, contours_shifted, shapes_shifted, shape_to, shapes_to, shape_fate_shifted, shapes_fate_shifted, joined_shifted, shapes_joined, counts_shifted, lengths_shifted}

module _ (d : Edge) where
  -- refused, or done alike
  by_refusal : (k : ℕ) (l : Lent) (o other : Outcome) → (k ≡ 0 → other ≡ set_shifted d o) → outcome k l other ≡ set_shifted d (outcome k l o)
  unfolding shifted
  by_refusal zero l o other e = e refl
  by_refusal (suc k) l o other e = refl

  module _ (n : ℕ) (l : Lent) where
    shape_cleaned : (rule : Rule) (s : List (List ℤ)) (f : ShapeFate) → ShapeRight rule s f → cleaned_shape n (shape_to d f) l ≡ set_shifted d (cleaned_shape n f l)
    unfolding shifted
    shape_cleaned rule s (stands cs t) r = rw (
      joined_shifted d cs r.1,
      shifted_count d (joined cs),
      length-map cs (shifted d),
      counts_shifted d cs,
      front_is d (joined cs) l.points (2 * count (joined cs)) (points_even cs r.1),
    )
    shape_cleaned rule s (fallen t) r = refl

    shapes_cleaned : (ss : Shapes) → Even (joined ss.shapes) → cleaned_shapes n (shapes_to d ss) l ≡ set_shifted d (cleaned_shapes n ss l)
    shapes_cleaned ss h =
        let cs = joined ss.shapes in
        rw (
          shapes_joined d ss.shapes,
          joined_shifted d cs h,
          shifted_count d (joined cs),
          length-map cs (shifted d),
          length-map ss.shapes (all_shifted d),
          counts_shifted d cs,
          lengths_shifted d ss.shapes,
          front_is d (joined cs) l.points (2 * count (joined cs)) (points_even cs h),
        )

  module _ (rule : Rule) (p : List ℤ) (on : StillOn d p) (cs : List (List ℕ)) (l : Lent) where
    pub shape_outcome_shifted : shape_outcome rule (shifted d p) cs l ≡ set_shifted d (shape_outcome rule p cs l)
    unfolding shape_outcome
    shape_outcome_shifted =
        let set = contours p (spans cs) in
        let k : ℕ = first_of (contour_refusals p cs ++ lacking p cs [] l) in
        let same : first_of (contour_refusals (shifted d p) cs ++ lacking (shifted d p) cs [] l) ≡ k = rw (on.after, on.before, shifted-length d p) in
        let fate : shape_fate rule (contours (shifted d p) (spans cs)) ≡ shape_to d (shape_fate rule set) = ap (shape_fate rule) (contours_shifted d p (spans cs)) ∙ shape_fate_shifted d rule set in
        let done : cleaned_shape (count (shifted d p)) (shape_fate rule (contours (shifted d p) (spans cs))) l ≡ cleaned_shape (count p) (shape_to d (shape_fate rule set)) l =
        ap₂ (λ (n : ℕ) (f : ShapeFate). cleaned_shape n f l) (shifted_count d p) fate in
        ap₂ (λ (i : ℕ) (o : Outcome). outcome i l o) same done
        ∙ by_refusal k l (cleaned_shape (count p) (shape_fate rule set) l) (cleaned_shape (count p) (shape_to d (shape_fate rule set)) l)
        (λ z. shape_cleaned (count p) l rule set (shape_fate rule set) (shape_is_right rule set (contours_of_a_set p cs (cleared (contour_refusals p cs) (lacking p cs [] l) tt z).0)))

    pub shapes_outcome_shifted : (ss : List (List ℕ)) → shapes_outcome rule (shifted d p) cs ss l ≡ set_shifted d (shapes_outcome rule p cs ss l)
    unfolding shapes_outcome
    shapes_outcome_shifted ss =
        let set = shapes p (spans cs) (spans ss) in
        let k : ℕ = first_of (shape_refusals p cs ss ++ lacking p cs ss l) in
        let same : first_of (shape_refusals (shifted d p) cs ss ++ lacking (shifted d p) cs ss l) ≡ k = rw (on.after, on.before, shifted-length d p) in
        let fate : shapes_fate rule (shapes (shifted d p) (spans cs) (spans ss)) ≡ shapes_to d (shapes_fate rule set) = ap (shapes_fate rule) (shapes_shifted d p (spans cs) (spans ss)) ∙ shapes_fate_shifted d rule set in
        let done : cleaned_shapes (count (shifted d p)) (shapes_fate rule (shapes (shifted d p) (spans cs) (spans ss))) l ≡ cleaned_shapes (count p) (shapes_to d (shapes_fate rule set)) l =
        ap₂ (λ (n : ℕ) (f : Shapes). cleaned_shapes n f l) (shifted_count d p) fate in
        ap₂ (λ (i : ℕ) (o : Outcome). outcome i l o) same done
        ∙ by_refusal k l (cleaned_shapes (count p) (shapes_fate rule set) l) (cleaned_shapes (count p) (shapes_to d (shapes_fate rule set)) l)
        (λ z. shapes_cleaned (count p) l (shapes_fate rule set) (kept_even rule set (shapes_of_a_set p cs ss (cleared (shape_refusals p cs ss) (lacking p cs ss l) tt z).0)))
