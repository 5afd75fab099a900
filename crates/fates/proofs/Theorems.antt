-- What a user may count on.
use mathlib.Core.Path.{◌≡◌, refl, sym, ◌∙◌, ap, ap₂}
use mathlib.Core.Logic.{◌⊎◌, inl, inr, ⊎_elim}
use mathlib.Core.Bool.{◌&&◌}
use mathlib.Core.List.{List, [], ◌∷◌, ◌++◌, map, map-append}
use Prim.Native.Nat.{ℕ, zero, suc}
use native.Mathlib.Omega.{arith}
use lib.IntN.{ℤ}
use lib.ListN.{length, take, length-append, length-map}
use lib.Seq.{take-append_seam}
use borrow.Author.Tests.{ne_eqb}
use Rattle.integers.proofs.Logic.{and_left, and_right}
use Rattle.replies.specs.Ladder.{first_of}
use Rattle.replies.proofs.LadderLaws.{front_clear}
use Rattle.grid.specs.Limits.{limit}
use Rattle.grid.specs.Domain.{count}
use Rattle.rows.specs.Rows.{front}
use Rattle.ring.specs.declared.Rule.{Rule}
use Rattle.ring.specs.Walk.{occurrences}
use Rattle.buffer.specs.Spans.{span, spans, sound}
use Rattle.buffer.specs.Sets.{joined, contour, contours, shapes}
use Rattle.buffer.specs.Shapes.{refusals}
use Rattle.buffer.proofs.RefusalLaws.{Accepted, accepted}
use Rattle.buffer.proofs.Theorems.{a_sound_set's_shapes_laid_end_to_end_are_its_contours}
use Rattle.sets.specs.Fates.{Fate, fate, and_later, later as later_stay, ShapeFate, behind as shape_behind, shape_fate, and_others, shapes_fate}
use Rattle.sets.specs.Fates.Fate.{stays, gone}
use Rattle.sets.specs.Fates.ShapeFate.{stands, fallen}
use Rattle.sets.specs.Outcome as Cleaning
use Rattle.sets.proofs.Untouched.{shapes_answered}
use Rattle.fates.specs.Fates.{kept, told, later, shape_fates, fates}
use Rattle.fates.specs.Outcome.{Lent, Outcome, lacking, outcome, telling, fates_outcome}
use Rattle.fates.specs.Promises.{left, cleaned, those_kept}

-- as many are kept as are told so
kept_many : (fs : List ℕ) (l : List (List ℤ)) → length fs ≡ length l → length (those_kept fs l) ≡ occurrences kept fs
unfolding those_kept occurrences
kept_many [] l e = refl
kept_many (zero ∷ fs) [] e = absurd (omega arith)
kept_many (zero ∷ fs) (c ∷ l) e = ap suc (kept_many fs l (omega arith))
kept_many (suc k ∷ fs) [] e = absurd (omega arith)
kept_many (suc k ∷ fs) (c ∷ l) e = rw (ne_eqb (suc k) 0 (λ z. absurd (omega arith)), occurrences) (kept_many fs l (omega arith))

-- those of contours in front of others
kept_both : (a b : List ℕ) (l m : List (List ℤ)) → length a ≡ length l → those_kept (a ++ b) (l ++ m) ≡ those_kept a l ++ those_kept b m
unfolding those_kept
kept_both [] b [] m e = refl
kept_both [] b (c ∷ l) m e = absurd (omega arith)
kept_both (zero ∷ a) b [] m e = absurd (omega arith)
kept_both (zero ∷ a) b (c ∷ l) m e = ap (λ (r : List (List ℤ)). c ∷ r) (kept_both a b l m (omega arith))
kept_both (suc k ∷ a) b [] m e = absurd (omega arith)
kept_both (suc k ∷ a) b (c ∷ l) m e = kept_both a b l m (omega arith)

module _ (rule : Rule) where
  shape_many : (s : List (List ℤ)) → length (shape_fates rule s) ≡ length s
  unfolding shape_fates
  shape_many [] = refl
  shape_many (c ∷ l) = ap suc (length-map l (later rule (told (fate rule c))))

  -- each contour has its fate
  pub there_are_as_many_fates_as_contours : (ss : List (List (List ℤ))) → length (fates rule ss) ≡ length (joined ss)
  unfolding fates joined
  there_are_as_many_fates_as_contours [] = refl
  there_are_as_many_fates_as_contours (s ∷ l) =
      let a = length-append (shape_fates rule s) (fates rule l) in
      let b = length-append s (joined l) in
      omega (arith, shape_many s, there_are_as_many_fates_as_contours l)

  -- later contours, behind an outline that is kept, and behind one that is not
  later_are : (l : List (List ℤ)) → map (cleaned rule) (those_kept (map (later rule kept) l) l) ≡ (later_stay rule l).contours
  unfolding those_kept later_stay
  later_are [] = refl
  later_are (c ∷ l) = go (fate rule c) refl (later_are l)
    where
      go : (w : Fate) → fate rule c ≡ w → map (cleaned rule) (those_kept (map (later rule kept) l) l) ≡ (later_stay rule l).contours → map (cleaned rule) (those_kept (told w ∷ map (later rule kept) l) (c ∷ l)) ≡ (and_later w (later_stay rule l)).contours
      go (stays d t) e r = ap₂ (λ (d : List ℤ) (m : List (List ℤ)). d ∷ m) (ap left e) r
      go (gone t) e r = r

  none_behind : (k : ℕ) (l : List (List ℤ)) → those_kept (map (later rule (suc k)) l) l ≡ []
  unfolding those_kept
  none_behind k [] = refl
  none_behind k (c ∷ l) = none_behind k l

  abbrev kept_of : ShapeFate → List (List ℤ)
  kept_of (stands cs t) = cs
  kept_of (fallen t) = []

  shape_is : (s : List (List ℤ)) → map (cleaned rule) (those_kept (shape_fates rule s) s) ≡ kept_of (shape_fate rule s)
  unfolding those_kept shape_fates shape_fate
  shape_is [] = refl
  shape_is (c ∷ l) = go (fate rule c) refl
    where
      go : (w : Fate) → fate rule c ≡ w → map (cleaned rule) (those_kept (told w ∷ map (later rule (told w)) l) (c ∷ l)) ≡ kept_of (shape_behind w (later_stay rule l))
      go (stays d t) e = ap₂ (λ (d : List ℤ) (m : List (List ℤ)). d ∷ m) (ap left e) (later_are l)
      go (gone t) e = ap (map (cleaned rule)) (none_behind 0 l)

  -- the contours of the cleaned set are those that are told as kept, in their order, each cleaned
  pub the_cleaned_contours_are_those_told_as_kept : (ss : List (List (List ℤ))) → map (cleaned rule) (those_kept (fates rule ss) (joined ss)) ≡ joined (shapes_fate rule ss).shapes
  unfolding those_kept fates joined shapes_fate
  the_cleaned_contours_are_those_told_as_kept [] = refl
  the_cleaned_contours_are_those_told_as_kept (s ∷ l) =
      ap (map (cleaned rule)) (kept_both (shape_fates rule s) (fates rule l) s (joined l) (shape_many s))
      ∙ map-append (cleaned rule) (those_kept (shape_fates rule s) s) (those_kept (fates rule l) (joined l))
      ∙ ap₂ (λ (a b : List (List ℤ)). a ++ b) (shape_is s) (the_cleaned_contours_are_those_told_as_kept l)
      ∙ go (shape_fate rule s)
    where
      go : (w : ShapeFate) → kept_of w ++ joined (shapes_fate rule l).shapes ≡ joined (and_others w (shapes_fate rule l)).shapes
      go (stands cs t) = refl
      go (fallen t) = refl

  pub as_many_are_told_as_kept_as_are_cleaned : (ss : List (List (List ℤ))) → occurrences kept (fates rule ss) ≡ length (joined (shapes_fate rule ss).shapes)
  as_many_are_told_as_kept_as_are_cleaned ss =
      sym (kept_many (fates rule ss) (joined ss) (there_are_as_many_fates_as_contours ss))
      ∙ sym (length-map (those_kept (fates rule ss) (joined ss)) (cleaned rule))
      ∙ ap length (the_cleaned_contours_are_those_told_as_kept ss)

-- Whatever the call; o is what the contract allows.
module _ (rule : Rule) (p : List ℤ) (cs ss : List (List ℕ)) (l : Lent) (o : Outcome) (is : o ≡ fates_outcome rule p cs ss l) where
  abbrev all_fates : List ℕ
  all_fates = fates rule (shapes p (spans cs) (spans ss))

  abbrev Done : Type 0
  Done = (first_of (refusals p cs ss ++ lacking p cs l) ≡ 0) × (o ≡ telling (count p) all_fates l)

  ended : Done ⊎ ((o.answer.reply ≡ 0 → ⊥) × (o.rows ≡ l))
  unfolding fates_outcome
  ended = go (first_of (refusals p cs ss ++ lacking p cs l)) refl is
    where
      go : (r : ℕ) → first_of (refusals p cs ss ++ lacking p cs l) ≡ r → o ≡ outcome r l (telling (count p) all_fates l) → Done ⊎ ((o.answer.reply ≡ 0 → ⊥) × (o.rows ≡ l))
      go zero f e = inl (f, e)
      go (suc k) f e = inr ((λ z. let y : ◌≡◌ {A = ℕ} (suc k) 0 = sym (ap (λ (w : Outcome). w.answer.reply) e) ∙ z in omega arith), ap (λ (w : Outcome). w.rows) e)

  -- a refusal, which is any reply but 0, leaves every row as it was
  pub a_refusal_leaves_every_row_as_it_was : (o.answer.reply ≡ 0 → ⊥) → o.rows ≡ l
  a_refusal_leaves_every_row_as_it_was n = ⊎_elim (λ x. absurd (n (ap (λ (w : Outcome). w.answer.reply) x.1))) (λ x. x.1) ended

  module _ (z : o.answer.reply ≡ 0) where
    pub done : Done
    done = ⊎_elim (λ x. x) (λ x. absurd (x.0 z)) ended

    taken : Accepted limit p (sound (spans cs) (count p) && sound (spans ss) (length cs))
    taken = accepted limit p _ (front_clear (refusals p cs ss) (lacking p cs l) done.0)

    all_contours : joined (shapes p (spans cs) (spans ss)) ≡ contours p (spans cs)
    all_contours =
        a_sound_set's_shapes_laid_end_to_end_are_its_contours p (spans cs) (spans ss) taken.even (and_left (sound (spans cs) (count p)) _ taken.sound)
        (ap (sound (spans ss)) (length-map cs span) ∙ and_right (sound (spans cs) (count p)) _ taken.sound)

    -- a fate for each contour stands in front of the row
    pub the_fates_stand_in_front : take (length cs) o.rows.fates ≡ all_fates
    the_fates_stand_in_front =
        let many : length cs ≡ length all_fates = sym (there_are_as_many_fates_as_contours rule (shapes p (spans cs) (spans ss)) ∙ ap length all_contours ∙ length-map (spans cs) (contour p) ∙ length-map cs span) in
        ap (λ (w : Outcome). take (length cs) w.rows.fates) done.1 ∙ ap (λ (n : ℕ). take n (front all_fates l.fates)) many ∙ take-append_seam all_fates _

    -- and the same set was cleaned by the same rule; u is what that contract allows
    module _ (k : Cleaning.Lent) (u : Cleaning.Outcome) (cleans : u ≡ Cleaning.shapes_outcome rule p cs ss k) (y : u.answer.reply ≡ 0) where
      -- as many contours are kept as the cleaning answers
      pub the_count_is_that_of_the_cleaned_contours : o.answer.count ≡ u.answer.contours
      the_count_is_that_of_the_cleaned_contours =
          ap (λ (w : Outcome). w.answer.count) done.1
          ∙ as_many_are_told_as_kept_as_are_cleaned rule (shapes p (spans cs) (spans ss))
          ∙ sym (ap (λ (w : Cleaning.Outcome). w.answer.contours) (shapes_answered rule p cs ss k u cleans y).1)

      -- and those that are told as kept stand in front of its output, in their order, each cleaned
      pub what_is_told_as_kept_is_what_the_cleaning_writes :
          u.rows.points ≡ front (joined (map (cleaned rule) (those_kept (take (length cs) o.rows.fates) (contours p (spans cs))))) k.points
      what_is_told_as_kept_is_what_the_cleaning_writes =
          ap (λ (w : Cleaning.Outcome). w.rows.points) (shapes_answered rule p cs ss k u cleans y).1
          ∙ ap (λ (cs : List (List ℤ)). front (joined cs) k.points)
          (sym (the_cleaned_contours_are_those_told_as_kept rule (shapes p (spans cs) (spans ss)))
          ∙ ap₂ (λ (fs : List ℕ) (l : List (List ℤ)). map (cleaned rule) (those_kept fs l)) (sym the_fates_stand_in_front) all_contours)
