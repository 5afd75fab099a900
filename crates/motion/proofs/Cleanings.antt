-- A shifted contour is walked as it was, so what a cleaning keeps of it is shifted, and all else is the same.
use mathlib.Core.Path.{◌≡◌, refl, sym, ◌∙◌, ap, ap₂}
use mathlib.Core.List.{List, [], ◌∷◌, ◌++◌}
use Prim.Native.Nat.{ℕ, zero, suc, ◌*◌, ◌/◌, ◌<◌}
use native.Mathlib.Omega.{arith}
use lib.ListN.{length, drop}
use lib.Seq.{take_at, drop_at}
use lib.IntN.{ℤ}
use Rattle.rows.specs.Rows.{front}
use Rattle.grid.specs.declared.Edge.{Edge}
use Rattle.grid.specs.Domain.{count}
use Rattle.ring.specs.declared.Rule.{Rule}
use Rattle.ring.specs.Walk.{End, Walked, walk}
use Rattle.ring.specs.Walk.End.{kept, collapsed}
use Rattle.ring.specs.Rule.{goes, goes_at, corner_of}
use Rattle.ring.specs.Promises.{Rising}
use Rattle.ring.proofs.Alike.{equal_rules_walk_alike}
use Rattle.ring.proofs.Theorems.{kept_rising}
use Rattle.clean.specs.Outcome.{walked, chosen, Lent, finished, refusal, outcome}
use Rattle.clean.proofs.RowLaws.{length_chosen}
use Rattle.clean.proofs.OutcomeLaws.{outcome_refused, outcome_done}
use Rattle.motion.specs.Moves.{shifted, StillOn, front_shifted, kept_shifted}
use Rattle.motion.proofs.Rows.{shifted-length, shifted_x, shifted_y, shifted_at}
use Rattle.motion.proofs.Shifts.{goes_shifted}

module _ (d : Edge) where
  pub shifted_count : (row : List ℤ) → count (shifted d row) ≡ count row
  shifted_count row = ap (λ (n : ℕ). n / 2) (shifted-length d row)

  -- what is kept, in front of a row
  pub front_is : (c out : List ℤ) (n : ℕ) → length c ≡ n → front (shifted d c) out ≡ front_shifted d n (front c out)
  front_is c out n e =
      let rest = drop (length c) out in
      ap (λ (k : ℕ). shifted d c ++ drop k out) (shifted-length d c)
      ∙ ap₂ (λ (a b : List ℤ). shifted d a ++ b) (sym (take_at c rest n e)) (sym (drop_at c rest n e))

  -- the points at positions of a row
  pub chosen_shifted : (row : List ℤ) (low : ℕ) (s : List ℕ) → Rising low (count row) s → chosen (shifted d row) s ≡ shifted d (chosen row s)
  unfolding chosen shifted
  chosen_shifted row low [] r = refl
  chosen_shifted row low (i ∷ s) r = rw (shifted_x d row i r.1, shifted_y d row i r.1, chosen_shifted row (suc i) s r.2)

  module _ (rule : Rule) (row : List ℤ) where
    pub walked_shifted : walked rule (shifted d row) ≡ walked rule row
    walked_shifted =
        ap (walk (goes rule (shifted d row))) (shifted_count row)
        ∙ equal_rules_walk_alike (goes rule (shifted d row)) (goes rule row) (count row) alike
      where
        alike : (a c b : ℕ) → a < count row → c < count row → b < count row → goes rule (shifted d row) a c b ≡ goes rule row a c b
        alike a c b i j k = rw (shifted_at d row a i, shifted_at d row c j, shifted_at d row b k) (goes_shifted d rule (corner_of row a c b))

    finished_shifted : (l : Lent) → finished (shifted d row) (walked rule (shifted d row)).end (walked rule (shifted d row)).tally l
        ≡ kept_shifted d (finished row (walked rule row).end (walked rule row).tally l)
    unfolding shifted
    finished_shifted l = ap (λ (w : Walked). finished (shifted d row) w.end w.tally l) walked_shifted ∙ by (walked rule row).end refl
      where
        by : (e : End) → (walked rule row).end ≡ e → finished (shifted d row) e (walked rule row).tally l ≡ kept_shifted d (finished row e (walked rule row).tally l)
        by (kept s) is = rw (
          shifted_count row,
          chosen_shifted row 0 s (kept_rising (goes rule row) (count row) is),
          front_is (chosen row s) l.out (2 * length s) (length_chosen row s),
        )
        by collapsed is = rw (shifted_count row)

    module _ (on : StillOn d row) (l : Lent) where
      same_refusal : refusal (shifted d row) l ≡ refusal row l
      same_refusal = rw (on.after, on.before, shifted-length d row)

      pub outcome_shifted : outcome rule (shifted d row) l ≡ kept_shifted d (outcome rule row l)
      unfolding shifted
      outcome_shifted = by (refusal row l) refl
        where
          by : (k : ℕ) → refusal row l ≡ k → outcome rule (shifted d row) l ≡ kept_shifted d (outcome rule row l)
          by zero e =
              outcome_done (goes_at rule) (shifted d row) l (same_refusal ∙ e) ∙ finished_shifted l
              ∙ ap (kept_shifted d) (sym (outcome_done (goes_at rule) row l e))
          by (suc k) e =
              let n : suc k ≡ 0 → ⊥ = λ z. omega arith in
              sym (outcome_refused (goes_at rule) (shifted d row) l (suc k) (sym (same_refusal ∙ e)) n)
              ∙ ap (kept_shifted d) (outcome_refused (goes_at rule) row l (suc k) (sym e) n)
