-- The outcome of a comparison, by the refusal that comes first.
use mathlib.Core.Path.{◌≡◌, refl, sym, ◌∙◌, ap, ap₂}
use mathlib.Core.Bool.{not}
use mathlib.Core.List.{List, ◌++◌}
use Prim.Native.Nat.{ℕ, zero, suc, ◌<◌, ◌≤◌, max}
use native.Mathlib.Omega.{arith}
use lib.Dec.{leb}
use lib.ListN.{length}
use lib.IntN.{ℤ}
use borrow.Author.Tests.{le-leb, lt-leb}
use Rattle.replies.specs.Ladder.{first_of, room}
use Rattle.replies.proofs.LadderLaws.{First, first_is, stopped, onward}
use Rattle.replies.proofs.LadderLaws.First.{here, past, foot}
use Rattle.rows.specs.Rows.{front}
use Rattle.grid.specs.Limits.{limit}
use Rattle.grid.specs.Domain.{count}
use Rattle.buffer.specs.Spans.{spans, sound}
use Rattle.buffer.specs.Contours.{refusals}
use Rattle.buffer.proofs.RefusalLaws.{accepted}
use Rattle.difference.specs.declared.Compared.{Compared}
use Rattle.difference.specs.Lines.{lines_of, written}
use Rattle.difference.specs.Outcome.{all_refusals, whose, leaving, answer, answered, outcome}
use Rattle.difference.specs.inside.Sets.{Sound}
use Rattle.difference.proofs.ListLaws.{lines-length}

-- a set that is not refused
pub is_sound : (p : List ℤ) (rs : List (List ℕ)) {r : ℕ} → r ≡ first_of (refusals p rs) → r ≡ 0 → Sound p rs
is_sound p rs e z =
    let a = accepted limit p (sound (spans rs) (count p)) (sym e ∙ z) in
    record { domain = record { even = a.even; few = a.few; on = a.on }; tied = a.sound }

module _ (p : List ℤ) (rs : List (List ℕ)) (q : List ℤ) (ss listing : List (List ℕ)) where
  -- an answer that is a refusal, by its number and by whose it is
  refused_by : (n w : ℕ) → (n ≡ 0 → ⊥) → First (all_refusals p rs q ss listing) n → whose (first_of (refusals p rs)) (first_of (refusals q ss)) ≡ w
      → {c : Compared} → c ≡ answer n w 0 → leaving c listing ≡ outcome p rs q ss listing
  unfolding outcome
  refused_by zero w z f e is = absurd (z refl)
  refused_by (suc n) w z f e is =
      ap (λ (c : Compared). leaving c listing) is ∙ ap₂ (λ (k v : ℕ). answered k v (lines_of p rs q ss) listing) (first_is _ (suc n) f) (sym e)

  module _ {a : ℕ} (e : a ≡ first_of (refusals p rs)) where
    pub first_refused : (a ≡ 0 → ⊥) → {c : Compared} → c ≡ answer a 1 0 → leaving c listing ≡ outcome p rs q ss listing
    first_refused n = refused_by a 1 n (stopped (refusals p rs) _ a e n) (ap (λ (k : ℕ). whose k (first_of (refusals q ss))) (sym e) ∙ first's a n)
      where
        first's : (k : ℕ) → (k ≡ 0 → ⊥) → whose k (first_of (refusals q ss)) ≡ 1
        first's zero n = absurd (n refl)
        first's (suc k) n = refl

    module _ (z : a ≡ 0) {b : ℕ} (f : b ≡ first_of (refusals q ss)) where
      -- past the first set's refusals, with the second's own as they are
      on : (r : ℕ) → First (refusals q ss ++ room (leb (max (length rs) (length ss)) (length listing))) r → First (all_refusals p rs q ss listing) r
      on r g = onward (refusals p rs) _ r tt (sym e ∙ z) g

      whose_is : whose (first_of (refusals p rs)) (first_of (refusals q ss)) ≡ whose 0 b
      whose_is = ap₂ whose (sym e ∙ z) (sym f)

      pub second_refused : (b ≡ 0 → ⊥) → {c : Compared} → c ≡ answer b 2 0 → leaving c listing ≡ outcome p rs q ss listing
      second_refused n = refused_by b 2 n (on b (stopped (refusals q ss) _ b f n)) (whose_is ∙ second's b n)
        where
          second's : (k : ℕ) → (k ≡ 0 → ⊥) → whose 0 k ≡ 2
          second's zero n = absurd (n refl)
          second's (suc k) n = refl

      module _ (y : b ≡ 0) {n : ℕ} (m : n ≡ max (length rs) (length ss)) where
        past_both : (r : ℕ) → First (room (leb (max (length rs) (length ss)) (length listing))) r → First (all_refusals p rs q ss listing) r
        past_both r g = on r (onward (refusals q ss) _ r tt (sym f ∙ y) g)

        pub no_room : length listing < n → {c : Compared} → c ≡ answer 5 0 0 → leaving c listing ≡ outcome p rs q ss listing
        no_room h = refused_by 5 0 (λ x. omega arith) (past_both 5 (here (ap not (lt-leb (max (length rs) (length ss)) (length listing) (omega arith))))) (whose_is ∙ ap (whose 0) y)

        pub listed_all : n ≤ length listing → {row : List (List ℕ)} → row ≡ front (written (lines_of p rs q ss)) listing → leaving (answer 0 0 n) row ≡ outcome p rs q ss listing
        unfolding outcome
        listed_all h {row} g =
            ap₂ (λ (k : ℕ) (l : List (List ℕ)). leaving (answer 0 0 k) l) (m ∙ sym (lines-length p rs q ss)) g
            ∙ ap (λ (k : ℕ). answered k (whose (first_of (refusals p rs)) (first_of (refusals q ss))) (lines_of p rs q ss) listing)
            (first_is _ 0 (past_both 0 (past (ap not (le-leb (max (length rs) (length ss)) (length listing) (omega arith))) foot)))
