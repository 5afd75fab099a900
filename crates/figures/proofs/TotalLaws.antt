-- Rows of totals, number by number.
use mathlib.Core.Path.{◌≡◌, refl, sym, ◌∙◌, ap, ap₂}
use mathlib.Core.List.{List, [], ◌∷◌, ◌++◌, append_assoc, append-nil}
use Prim.Native.Nat.{ℕ, zero, suc, ◌+◌, ◌<◌, ◌≤◌}
use native.Mathlib.Omega.{arith}
use native.Mathlib.Numerals.{add-one}
use lib.ListN.{length, get_or, set, take, drop}
use lib.Seq.{drop-cons, drop-length, take-suc, take-length, length-take-le, set_at, get_or_at}
use Rattle.std.specs.List.{sum_by}
use Rattle.std.proofs.lemmas.List.Recursion.{is_sum_by}
use Rattle.figures.specs.Joining.{added_up, total}

pub total_is : (row : List ℕ) → total row ≡ sum_by (λ (n : ℕ). n) row
unfolding total
total_is = is_sum_by total (λ (n : ℕ). n) refl (λ _ _. refl)

-- no number is above the sum
pub at_most_total : (row : List ℕ) (i : ℕ) → get_or row i 0 ≤ total row
unfolding total
at_most_total [] i = omega arith
at_most_total (x ∷ row) zero = omega arith
at_most_total (x ∷ row) (suc i) = omega (arith, at_most_total row i)

-- either row may come first
pub added_either_way : (r s : List ℕ) → added_up r s ≡ added_up s r
unfolding added_up
added_either_way [] [] = refl
added_either_way [] (y ∷ s) = refl
added_either_way (x ∷ r) [] = refl
added_either_way (x ∷ r) (y ∷ s) = ap₂ {C = List ℕ} (λ (z : ℕ) (l : List ℕ). z ∷ l) (omega arith) (added_either_way r s)

added-length : (r s : List ℕ) → length r ≡ length s → length (added_up r s) ≡ length r
unfolding added_up
added-length [] s e = refl
added-length (x ∷ r) [] e = absurd (omega arith)
added-length (x ∷ r) (y ∷ s) e = ap suc (added-length r s (omega arith))

added_at : (r s : List ℕ) (i : ℕ) → length r ≡ length s → i < length r → get_or (added_up r s) i 0 ≡ get_or r i 0 + get_or s i 0
unfolding added_up
added_at [] s i e h = absurd (omega arith)
added_at (x ∷ r) [] i e h = absurd (omega arith)
added_at (x ∷ r) (y ∷ s) zero e h = refl
added_at (x ∷ r) (y ∷ s) (suc i) e h = added_at r s i (omega arith) (omega arith)

-- the sums up to i, and the first row from there on
abbrev pub so_far : List ℕ → List ℕ → ℕ → List ℕ
so_far a b i = take i (added_up a b) ++ drop i a

module _ (a b : List ℕ) (e : length a ≡ length b) where
  pub so_far_more : (i : ℕ) → i < length a → set (so_far a b i) i (get_or a i 0 + get_or b i 0) ≡ so_far a b (i + 1)
  so_far_more i h =
      let x = added_up a b in
      let y = get_or a i 0 + get_or b i 0 in
      let l : i < length x = omega (arith, added-length a b e) in
      rw (drop-cons a i 0 h)
      (set_at (take i x) (get_or a i 0) (drop (suc i) a) y i (length-take-le i x (omega arith))
      ∙ sym (rw (add-one i, take-suc x i 0 l, added_at a b i e h) (append_assoc (take i x) (y ∷ []) (drop (suc i) a))))

  pub so_far_all : (i : ℕ) → i ≡ length a → so_far a b i ≡ added_up a b
  so_far_all i h =
      let x = added_up a b in
      let l : i ≡ length x = h ∙ sym (added-length a b e) in
      ap (λ (r : List ℕ). take i x ++ r) (ap (λ (k : ℕ). drop k a) h ∙ drop-length a) ∙ append-nil (take i x) ∙ ap (λ (k : ℕ). take k x) l ∙ take-length x

  -- from i on the first row is as it was
  pub so_far_at : (i : ℕ) → i < length a → get_or (so_far a b i) i 0 ≡ get_or a i 0
  so_far_at i h =
      let x = added_up a b in
      rw (drop-cons a i 0 h) (get_or_at (take i x) (get_or a i 0) (drop (suc i) a) 0 i (length-take-le i x (omega (arith, added-length a b e))))
