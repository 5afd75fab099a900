-- What the telling of fates comes to.
use mathlib.Core.Path.{◌≡◌, refl, sym, ◌∙◌, ap}
use mathlib.Core.Bool.{◌&&◌}
use mathlib.Core.List.{List, ◌++◌}
use Prim.Native.Nat.{ℕ, zero, suc, ◌≤◌}
use native.Mathlib.Omega.{arith}
use lib.Dec.{leb}
use lib.IntN.{ℤ}
use lib.ListN.{length, take, drop}
use lib.Seq.{length-take-le}
use borrow.Author.Tests.{ltb-false, leb-true, not-false}
use Rattle.integers.proofs.Logic.{and_left, and_right}
use Rattle.std.proofs.Common.{Err}
use Rattle.replies.specs.declared.refusal.Refusal.{Refusal}
use Rattle.replies.specs.Refusals.{number}
use Rattle.replies.proofs.RefusalLaws.{refusals_have_numbers, asked_further}
use Rattle.replies.specs.Ladder.{Rung, first_of, room, so_far}
use Rattle.replies.proofs.LadderLaws.{clear, cleared, so_far_then}
use Rattle.grid.specs.Limits.{limit}
use Rattle.grid.specs.Domain.{count}
use Rattle.rows.specs.Rows.{front}
use Rattle.ring.specs.declared.Rule.{Rule}
use Rattle.ring.specs.Walk.{occurrences}
use Rattle.clean.specs.Outcome.{scratch}
use Rattle.buffer.specs.declared.answer.Counted.{Counted}
use Rattle.buffer.specs.Answers.{counted, counted_as}
use Rattle.buffer.specs.Spans.{spans, sound}
use Rattle.buffer.specs.Sets.{shapes}
use Rattle.buffer.specs.Shapes.{refusals}
use Rattle.buffer.proofs.RefusalLaws.{Accepted, accepted}
use Rattle.sets.specs.inside.Contour.{Scratch}
use Rattle.sets.specs.inside.Shape.{Zeroed}
use Rattle.sets.proofs.BehindLaws.{accepted_named}
use Rattle.sets.proofs.CleanLaws.{zeroed_back}
use Rattle.fates.specs.Fates.{kept, fates}
use Rattle.fates.specs.Outcome.{Lent, lent, leaving, lacking, outcome, telling, fates_outcome}
use Rattle.fates.specs.inside.Telling.{Each}

same_leaving : {a b : Counted} {n m p q k l f g : List ℕ} → a ≡ b → n ≡ m → p ≡ q → k ≡ l → f ≡ g → leaving a (lent n p k f) ≡ leaving b (lent m q l g)
same_leaving e f g h i = cc

module _ (p : List ℤ) (cs ss : List (List ℕ)) (l : Lent) where
  abbrev pub rungs : List Rung
  rungs = refusals p cs ss ++ lacking p cs l

  pub first_refusal : {k : ℕ} → 0 ≡ first_of (refusals p cs ss) → k ≡ first_of (lacking p cs l) → k ≡ first_of rungs
  first_refusal e f = asked_further (refusals p cs ss) (lacking p cs l) tt e f

  refused_by : (rule : Rule) (k : ℕ) → k ≡ first_of rungs → (k ≡ 0 → ⊥) → leaving (record { reply = k; count = 0 }) l ≡ fates_outcome rule p cs ss l
  unfolding fates_outcome
  refused_by rule zero e n = absurd (n refl)
  refused_by rule (suc k) e n = ap (λ (r : ℕ). outcome r l (telling (count p) (fates rule (shapes p (spans cs) (spans ss))) l)) e

  pub refused : (rule : Rule) (r : Refusal) → number r ≡ first_of rungs → leaving (counted_as (Err r)) l ≡ fates_outcome rule p cs ss l
  refused rule r e = refused_by rule (number r) e (refusals_have_numbers r)

  module _ (z : first_of rungs ≡ 0) where
    parts : (first_of (refusals p cs ss) ≡ 0) × (first_of (lacking p cs l) ≡ 0)
    parts = cleared (refusals p cs ss) (lacking p cs l) tt z

    taken : Accepted limit p (sound (spans cs) (count p) && sound (spans ss) (length cs))
    taken = accepted limit p _ parts.0

    pub scratch_fits : Scratch (count p) l.next l.prev l.mark
    scratch_fits =
        let c = clear (lacking p cs l) tt parts.1 in
        record { in_next = ltb-false _ _ c.0; in_prev = ltb-false _ _ c.1.0; in_mark = ltb-false _ _ c.1.1.0 }

    pub fates_fit : length cs ≤ length l.fates
    fates_fit = leb-true _ _ (not-false _ (clear (lacking p cs l) tt parts.1).1.1.1.0)

    pub each_tellable : Each p cs ss (take (count p) l.next) (take (count p) l.prev) (take (count p) l.mark) (take (length cs) l.fates)
    each_tellable =
        let s = scratch_fits in
        record {
          tellable = record {
            named = accepted_named p cs _ taken (and_left (sound (spans cs) (count p)) _ taken.sound);
            scratch = record {
              in_next = omega (arith, length-take-le (count p) l.next s.in_next);
              in_prev = omega (arith, length-take-le (count p) l.prev s.in_prev);
              in_mark = omega (arith, length-take-le (count p) l.mark s.in_mark);
            };
            long = length-take-le (length cs) l.fates fates_fit;
          };
          sound = and_right (sound (spans cs) (count p)) _ taken.sound;
        }

    pub all_told : (rule : Rule) (next' prev' mark' fates' : List ℕ) → fates' ≡ fates rule (shapes p (spans cs) (spans ss)) → length fates' ≡ length (take (length cs) l.fates)
        → Zeroed (take (count p) l.next) (take (count p) l.prev) (take (count p) l.mark) next' prev' mark'
        → (n : ℕ) → n ≡ occurrences kept (fates rule (shapes p (spans cs) (spans ss)))
        → leaving (record { reply = 0; count = n }) (lent (next' ++ drop (count p) l.next) (prev' ++ drop (count p) l.prev) (mark' ++ drop (count p) l.mark) (fates' ++ drop (length cs) l.fates))
        ≡ fates_outcome rule p cs ss l
    unfolding fates_outcome
    all_told rule next' prev' mark' fates' e n y k f =
        let s = scratch_fits in
        let long : length cs ≡ length fates' = sym (n ∙ length-take-le (length cs) l.fates fates_fit) in
        same_leaving (ap (counted 0) f)
        (zeroed_back (count p) l.next next' s.in_next y.next-zero)
        (zeroed_back (count p) l.prev prev' s.in_prev y.prev-zero)
        (zeroed_back (count p) l.mark mark' s.in_mark y.mark-zero)
        (ap (λ (k : ℕ). fates' ++ drop k l.fates) long ∙ ap (λ (fs : List ℕ). front fs l.fates) e)
        ∙ rw (z, fates_outcome)
