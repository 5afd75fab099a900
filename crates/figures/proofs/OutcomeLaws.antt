-- What adding a set comes to.
use mathlib.Core.Path.{◌≡◌, refl, ◌∙◌, ap}
use mathlib.Core.Bool.{true, false}
use mathlib.Core.List.{List, [], ◌∷◌, ◌++◌}
use Prim.Native.Nat.{ℕ, zero, suc, ◌<◌, ◌≤◌}
use native.Mathlib.Omega.{arith}
use lib.IntN.{ℤ}
use lib.ListN.{length, take, drop}
use lib.Seq.{length-take-le}
use borrow.Author.Tests.{ltb-false, leb-true, not-false}
use Rattle.replies.specs.Ladder.{Rung, first_of}
use Rattle.replies.specs.declared.refusal.Refusal.{Refusal}
use Rattle.replies.specs.Refusals.{number}
use Rattle.replies.proofs.LadderLaws.{clear, cleared, first_within}
use Rattle.replies.proofs.RefusalLaws.{refusals_have_numbers}
use Rattle.grid.specs.Limits.{limit}
use Rattle.grid.specs.Domain.{count}
use Rattle.ring.specs.declared.Rule.{Rule}
use Rattle.clean.specs.Outcome.{Lent, lent}
use Rattle.buffer.specs.Spans.{spans, sound}
use Rattle.buffer.specs.Sets.{contours}
use Rattle.buffer.specs.Contours.{refusals}
use Rattle.buffer.proofs.RefusalLaws.{accepted}
use Rattle.sets.specs.inside.Contour.{Scratch}
use Rattle.sets.specs.inside.Shape.{Named, Zeroed}
use Rattle.sets.proofs.BehindLaws.{accepted_named}
use Rattle.sets.proofs.CleanLaws.{zeroed_back}
use Rattle.figures.specs.declared.answer.Figures.{Figures}
use Rattle.figures.specs.declared.answer.Added.{Added}
use Rattle.figures.specs.Entries.{entries, refused_set}
use Rattle.figures.specs.Batch.{numbers, figures_of}
use Rattle.figures.specs.Joining.{sum, fits, over, added, answered}
use Rattle.figures.specs.Adding.{lacking, set_refusals, found, leaving, outcome, add_outcome}
use Rattle.figures.specs.inside.Adding.{Joinable, Countable, CountsAll}
use Rattle.figures.specs.Promises.{RealBy}
use Rattle.figures.proofs.BatchLaws.{counted_is}
use Rattle.figures.proofs.PossibleLaws.{fits_means}
use Rattle.figures.proofs.SumLaws.{over_not, over_is}
use Rattle.figures.proofs.LimitLaws.{all_numbered, small_refused, figures_possible}
use Rattle.figures.proofs.CountingLaws.{all_contours, entries_many, all_small}

-- a refused set can be added where one more fits
pub refused_joinable : (f : Figures) (k : ℕ) → k < numbers → fits f 1 ≡ true → (g : Figures) → g ≡ figures_of (refused_set k ∷ []) → Joinable f g
refused_joinable f k h e g is =
    let s = small_refused k h in
    rw is (record { few = omega (arith, counted_is (all_numbered s), (fits_means f 1 e).0); first = (fits_means f 1 e).1; second = figures_possible s (omega arith) })

same_leaving : {a b : Added} {n m p q k l : List ℕ} {o u : List ℤ} → a ≡ b → n ≡ m → p ≡ q → k ≡ l → o ≡ u → leaving a (lent n p k o) ≡ leaving b (lent m q l u)
same_leaving e f g h i = cc

module _ (p : List ℤ) (ranges : List (List ℕ)) (l : Lent) where
  abbrev pub rungs : List Rung
  rungs = set_refusals p ranges l

  -- it has a reply number
  refusal_small : first_of rungs < numbers
  refusal_small = let h : first_of rungs ≤ 21 = first_within 21 rungs refl in omega arith

  module _ (f : Figures) (rule : Rule) where
    as_refused : (r : ℕ) → r ≡ first_of rungs → (r ≡ 0 → ⊥) → (a : Added) → a ≡ answered (first_of (over (fits f 1))) f (sum f (figures_of (refused_set r ∷ []))) → leaving a l ≡ add_outcome f rule p ranges l
    unfolding add_outcome
    as_refused zero e n a h = absurd (n refl)
    as_refused (suc k) e n a h = rw (← e) (ap (λ (b : Added). leaving b l) h ∙ go (first_of (over (fits f 1))))
      where
        go : (r : ℕ) → leaving (answered r f (sum f (figures_of (refused_set (suc k) ∷ [])))) l ≡ outcome r f (sum f (figures_of (refused_set (suc k) ∷ []))) l l
        go zero = refl
        go (suc j) = refl

    pub added_refused : (r : Refusal) → number r ≡ first_of rungs → (a : Added) → a ≡ answered (first_of (over (fits f 1))) f (sum f (figures_of (refused_set (number r) ∷ []))) → leaving a l ≡ add_outcome f rule p ranges l
    added_refused r e a h = as_refused (number r) e (refusals_have_numbers r) a h

  module _ (z : first_of rungs ≡ 0) where
    parts : (first_of (refusals p ranges) ≡ 0) × (first_of (lacking p l) ≡ 0)
    parts = cleared (refusals p ranges) (lacking p l) tt z

    pub set_named : Named p ranges
    set_named = let a = accepted limit p (sound (spans ranges) (count p)) parts.0 in accepted_named p ranges _ a a.sound

    pub scratch_fits : Scratch (count p) l.next l.prev l.mark
    scratch_fits =
        let c = clear (lacking p l) tt parts.1 in
        record { in_next = ltb-false _ _ c.0; in_prev = ltb-false _ _ c.1.0; in_mark = ltb-false _ _ c.1.1.0 }

    pub output_fits : length p ≤ length l.out
    output_fits = leb-true _ _ (not-false _ (clear (lacking p l) tt parts.1).1.1.1.0)

    module _ (f : Figures) (rule : Rule) where
      many : fits f (length (entries (found rule p ranges l))) ≡ fits f (length ranges)
      many = rw z (ap (fits f) (entries_many rule p ranges l.out))

      pub added_over : fits f (length ranges) ≡ false → leaving (added 21 f) l ≡ add_outcome f rule p ranges l
      unfolding add_outcome
      added_over e = rw (over_is _ (many ∙ e))

      module _ (e : fits f (length ranges) ≡ true) where
        pub countable : Countable p ranges (take (count p) l.next) (take (count p) l.prev) (take (count p) l.mark) l.out
        countable =
            let s = scratch_fits in
            record {
              named = set_named;
              few = omega (arith, (fits_means f (length ranges) e).0);
              scratch = record {
                in_next = omega (arith, length-take-le (count p) l.next s.in_next);
                in_prev = omega (arith, length-take-le (count p) l.prev s.in_prev);
                in_mark = omega (arith, length-take-le (count p) l.mark s.in_mark);
              };
              room = output_fits;
            }

        pub all_joinable : (g : Figures) (exit : List ℤ) → CountsAll rule p ranges l.out g exit → Joinable f g
        all_joinable g exit a =
            let s = all_small rule p ranges l.out countable in
            let n = entries_many rule p ranges l.out in
            rw a.figures_are
            (record {
              few = omega (arith, counted_is (all_numbered s), n, (fits_means f (length ranges) e).0);
              first = (fits_means f (length ranges) e).1;
              second = figures_possible s (omega (arith, n, countable.few));
            })

        pub all_added : (g s : Figures) (next' prev' mark' : List ℕ) (exit : List ℤ) → CountsAll rule p ranges l.out g exit → s ≡ sum f g
            → Zeroed (take (count p) l.next) (take (count p) l.prev) (take (count p) l.mark) next' prev' mark'
            → leaving (added 0 s) (lent (next' ++ drop (count p) l.next) (prev' ++ drop (count p) l.prev) (mark' ++ drop (count p) l.mark) exit)
            ≡ add_outcome f rule p ranges l
        unfolding add_outcome
        all_added g s next' prev' mark' exit a i y =
            let x = scratch_fits in
            same_leaving (ap (added 0) (i ∙ ap (sum f) a.figures_are))
            (zeroed_back (count p) l.next next' x.in_next y.next-zero)
            (zeroed_back (count p) l.prev prev' x.in_prev y.prev-zero)
            (zeroed_back (count p) l.mark mark' x.in_mark y.mark-zero)
            a.output
            ∙ rw (over_not _ (many ∙ e), z)

  -- what a call finds is real
  pub found_is_real : (rule : Rule) → RealBy (found rule p ranges l).refusal (contours p (spans ranges))
  found_is_real rule = go (first_of rungs) refl
    where
      go : (r : ℕ) → first_of rungs ≡ r → RealBy r (contours p (spans ranges))
      go zero e = all_contours p ranges (set_named e)
      go (suc k) e = rw e at refusal_small
