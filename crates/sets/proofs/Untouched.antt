-- What a cleaning of shapes leaves of the lent rows when it refuses, and when a shape collapses.
use Rattle.std.proofs.Common.{◌≡◌, ℕ, zero, suc, true, ◌⊎◌, List, [], ◌++◌, ℤ, sym, refl, ap, ◌∙◌, inl, inr, ⊎_elim, arith}
use Rattle.replies.specs.Ladder.{Rung, first_of}
use Rattle.grid.specs.Domain.{count}
use Rattle.replies.proofs.LadderLaws.{within, first_within}
use Rattle.ring.specs.declared.Rule.{Rule}
use Rattle.clean.specs.Promises.{Zeroed}
use Rattle.clean.proofs.RowLaws.{zeroed_is}
use Rattle.buffer.specs.Spans.{spans}
use Rattle.buffer.specs.Sets.{contours, shapes}
use Rattle.buffer.specs.Contours.{refusals as contour_refusals}
use Rattle.buffer.specs.Shapes.{refusals as shape_refusals}
use Rattle.sets.specs.Fates.{ShapeFate, shape_fate, shapes_fate}
use Rattle.sets.specs.Fates.ShapeFate.{stands, fallen}
use Rattle.sets.specs.Outcome.{Lent, Outcome, swept, lacking, outcome, cleaned_shape, shape_outcome, cleaned_shapes, shapes_outcome}

reply_of : {o u : Outcome} → o ≡ u → o.answer.reply ≡ u.answer.reply
reply_of e = ap (λ (w : Outcome). w.answer.reply) e

-- a call was not refused, or its reply is neither 0 nor 7 and every row is as it was
pub ended : (rungs : List Rung) → within 6 rungs ≡ true → (l : Lent) (done o : Outcome) → o ≡ outcome (first_of rungs) l done
    → ((first_of rungs ≡ 0) × (o ≡ done)) ⊎ ((o.answer.reply ≡ 0 → ⊥) × (o.answer.reply ≡ 7 → ⊥) × (o.rows ≡ l))
ended rungs t l done o e = go (first_of rungs) refl e
  where
    go : (r : ℕ) → first_of rungs ≡ r → o ≡ outcome r l done → ((first_of rungs ≡ 0) × (o ≡ done)) ⊎ ((o.answer.reply ≡ 0 → ⊥) × (o.answer.reply ≡ 7 → ⊥) × (o.rows ≡ l))
    go zero f e = inl (f, e)
    go (suc k) f e = inr (
      (λ z. let y : ◌≡◌ {A = ℕ} (suc k) 0 = sym (reply_of e) ∙ z in omega arith),
      (λ z. let y : suc k ≡ 7 = sym (reply_of e) ∙ z in omega (arith, f, first_within 6 rungs t)),
      ap (λ (w : Outcome). w.rows) e,
    )

-- One shape, whatever the call; o is what the contract allows.
module _ (rule : Rule) (p : List ℤ) (cs : List (List ℕ)) (l : Lent) (o : Outcome) (is : o ≡ shape_outcome rule p cs l) where
  abbrev Done : Type 0
  Done = (first_of (contour_refusals p cs ++ lacking p cs [] l) ≡ 0) × (o ≡ cleaned_shape (count p) (shape_fate rule (contours p (spans cs))) l)

  end : Done ⊎ ((o.answer.reply ≡ 0 → ⊥) × (o.answer.reply ≡ 7 → ⊥) × (o.rows ≡ l))
  unfolding shape_outcome
  end = ended (contour_refusals p cs ++ lacking p cs [] l) refl l _ o is

  -- a refusal, which is any reply but 0 and 7, leaves every row as it was
  pub a_refused_shape_leaves_every_row_as_it_was : (o.answer.reply ≡ 0 → ⊥) → (o.answer.reply ≡ 7 → ⊥) → o.rows ≡ l
  a_refused_shape_leaves_every_row_as_it_was n m = ⊎_elim (λ x. go (shape_fate rule (contours p (spans cs))) x.1) (λ x. x.2) end
    where
      go : (f : ShapeFate) → o ≡ cleaned_shape (count p) f l → o.rows ≡ l
      go (stands t k) e = absurd (n (reply_of e))
      go (fallen k) e = absurd (m (reply_of e))

  -- 0 is the answer of a call that was not refused
  pub answered : o.answer.reply ≡ 0 → Done
  answered z = ⊎_elim (λ x. x) (λ x. absurd (x.0 z)) end

  module _ (seven : o.answer.reply ≡ 7) where
    -- and so is 7
    pub seven_is_done : Done
    seven_is_done = ⊎_elim (λ x. x) (λ x. absurd (x.1 seven)) end

    collapsed_rows : o.rows ≡ swept (count p) l
    collapsed_rows = go (shape_fate rule (contours p (spans cs))) seven_is_done.1
      where
        go : (f : ShapeFate) → o ≡ cleaned_shape (count p) f l → o.rows ≡ swept (count p) l
        go (stands t k) e = let z : ◌≡◌ {A = ℕ} 0 7 = sym (reply_of e) ∙ seven in absurd (omega arith)
        go (fallen k) e = ap (λ (w : Outcome). w.rows) e

    -- 7 leaves every output row as it was
    pub a_collapsed_shape_leaves_every_output_row_as_it_was : (o.rows.points ≡ l.points) × (o.rows.contours ≡ l.contours) × (o.rows.shapes ≡ l.shapes)
    a_collapsed_shape_leaves_every_output_row_as_it_was = rw collapsed_rows (refl, refl, refl)

    -- and the scratch zeroed, as far as the set has points
    pub a_collapsed_shape_leaves_the_scratch_zeroed :
        Zeroed (count p) l.next o.rows.next × Zeroed (count p) l.prev o.rows.prev × Zeroed (count p) l.mark o.rows.mark
    a_collapsed_shape_leaves_the_scratch_zeroed = rw collapsed_rows (zeroed_is (count p) l.next, zeroed_is (count p) l.prev, zeroed_is (count p) l.mark)

-- Shapes, whatever the call; o is what the contract allows.
module _ (rule : Rule) (p : List ℤ) (cs ss : List (List ℕ)) (l : Lent) (o : Outcome) (is : o ≡ shapes_outcome rule p cs ss l) where
  abbrev ShapesDone : Type 0
  ShapesDone = (first_of (shape_refusals p cs ss ++ lacking p cs ss l) ≡ 0) × (o ≡ cleaned_shapes (count p) (shapes_fate rule (shapes p (spans cs) (spans ss))) l)

  shapes_end : ShapesDone ⊎ ((o.answer.reply ≡ 0 → ⊥) × (o.answer.reply ≡ 7 → ⊥) × (o.rows ≡ l))
  unfolding shapes_outcome
  shapes_end = ended (shape_refusals p cs ss ++ lacking p cs ss l) refl l _ o is

  pub shapes_answered : o.answer.reply ≡ 0 → ShapesDone
  shapes_answered z = ⊎_elim (λ x. x) (λ x. absurd (x.0 z)) shapes_end

  -- a refusal, which is any reply but 0, leaves every row as it was
  pub refused_shapes_leave_every_row_as_it_was : (o.answer.reply ≡ 0 → ⊥) → o.rows ≡ l
  refused_shapes_leave_every_row_as_it_was n = ⊎_elim (λ x. absurd (n (reply_of x.1))) (λ x. x.2) shapes_end

  -- 7 is never the answer
  pub shapes_never_answer_seven : o.answer.reply ≡ 7 → ⊥
  shapes_never_answer_seven seven = ⊎_elim (λ x. let z : ◌≡◌ {A = ℕ} 0 7 = sym (reply_of x.1) ∙ seven in omega arith) (λ x. x.1 seven) shapes_end
