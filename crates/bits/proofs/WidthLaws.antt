-- The smallest width that numbers fit.
use mathlib.Core.Path.{◌≡◌, refl, sym, ◌∙◌, subst}
use mathlib.Core.Bool.{Bool, true, false}
use mathlib.Core.List.{List}
use Prim.Native.Nat.{ℕ, zero, suc, ◌+◌, ◌-◌, ◌*◌, ◌^◌, ◌≤◌, ◌<◌}
use native.Mathlib.Nat.{pow-suc, lt_of_lt_of_le}
use native.Mathlib.Decide.{dec_le}
use native.Mathlib.Omega.{arith}
use lib.Dec.{T, ltb}
use lib.Pow.{pow_mono}
use lib.Count.{count_leading_zeros, leading_length}
use lib.IntN.{ℤ}
use borrow.Author.Tests.{ltb-true, lt-ltb}
use Rattle.bits.specs.Signs.{all_fit}
use Rattle.bits.specs.Widths.{smallest, width_of}
use Rattle.bits.proofs.SignLaws.{all_fit_wider}

-- the smallest width that passes a test
module _ (t : ℕ → Bool) (k : ℕ) where
  smallest_yes : t (suc k) ≡ true → smallest t (suc k) ≡ smallest t k
  unfolding smallest
  smallest_yes e = rw (e, smallest)

  smallest_no : t (suc k) ≡ false → smallest t (suc k) ≡ suc (suc k)
  unfolding smallest
  smallest_no e = rw (e, smallest)

  -- a fact of the smallest width, by cases
  by_test : (P : ℕ → Type 0) → (t (suc k) ≡ true → P (smallest t k)) → (t (suc k) ≡ false → P (suc (suc k))) → P (smallest t (suc k))
  by_test P f g = go (t (suc k)) refl
    where
      go : (b : Bool) → t (suc k) ≡ b → P (smallest t (suc k))
      go true e = subst P (sym (smallest_yes e)) (f e)
      go false e = subst P (sym (smallest_no e)) (g e)

pub smallest_some : (t : ℕ → Bool) (k : ℕ) → 0 < smallest t k
unfolding smallest
smallest_some t zero = omega arith
smallest_some t (suc k) = by_test t k (λ (n : ℕ). 0 < n) (λ e. smallest_some t k) (λ e. omega arith)

pub smallest_few : (t : ℕ → Bool) (k : ℕ) → smallest t k ≤ suc k
unfolding smallest
smallest_few t zero = omega arith
smallest_few t (suc k) = by_test t k (λ (n : ℕ). n ≤ suc (suc k)) (λ e. omega (arith, smallest_few t k)) (λ e. omega arith)

pub smallest_passes : (t : ℕ → Bool) (k : ℕ) → t (suc k) ≡ true → t (smallest t k) ≡ true
unfolding smallest
smallest_passes t zero h = h
smallest_passes t (suc k) h = by_test t k (λ (n : ℕ). t n ≡ true) (λ e. smallest_passes t k e) (λ e. h)

pub smallest_least : (t : ℕ → Bool) → ((w v : ℕ) → w ≤ v → t w ≡ true → t v ≡ true) → (k w : ℕ) → 0 < w → t w ≡ true → smallest t k ≤ w
unfolding smallest
smallest_least t up zero w s h = s
smallest_least t up (suc k) w s h = by_test t k (λ (n : ℕ). n ≤ w) (λ e. smallest_least t up k w s h) (λ e. over e (dec_le w (suc k)))
  where
    over : t (suc k) ≡ false → Dec (w ≤ suc k) → suc (suc k) ≤ w
    over e (yes l) = let c : true ≡ false = sym (up w (suc k) l h) ∙ e in absurd (subst T c tt)
    over e (no l) = omega arith

pub smallest_same : (s t : ℕ → Bool) → ((w : ℕ) → s w ≡ t w) → (k : ℕ) → smallest s k ≡ smallest t k
unfolding smallest
smallest_same s t e zero = refl
smallest_same s t e (suc k) =
    by_test t k (λ (n : ℕ). smallest s (suc k) ≡ n)
    (λ f. smallest_yes s k (e (suc k) ∙ f) ∙ smallest_same s t e k) (λ f. smallest_no s k (e (suc k) ∙ f))

-- the smallest width that numbers fit is at most w exactly if they fit w
pub width_at_most : (l : List ℤ) (w : ℕ) → 0 < w → all_fit w l ≡ true → width_of l ≤ w
width_at_most l w h e = smallest_least (λ (v : ℕ). all_fit v l) (all_fit_wider l) 31 w h e

pub width_fits : (l : List ℤ) (w : ℕ) → all_fit 32 l ≡ true → width_of l ≤ w → all_fit w l ≡ true
width_fits l w h e = all_fit_wider l (width_of l) w e (smallest_passes (λ (v : ℕ). all_fit v l) 31 h)

-- the smallest width by the leading zeros of a number
module _ (m : ℕ) (h : m < 2 ^ 31) where
  abbrev passes : ℕ → Bool
  passes w = ltb m (2 ^ (w - 1))

  pub by_zeros : 65 - count_leading_zeros 64 m ≡ smallest (λ (w : ℕ). ltb m (2 ^ (w - 1))) 31
  by_zeros =
      let s = leading_length 64 m (lt_of_lt_of_le h (pow_mono {i = 31} {j = 64} (omega arith))) in
      let j : ℕ = s.0 in
      let n : ℕ = smallest passes 31 in
      let some : 0 < n = smallest_some passes 31 in
      let up : (w v : ℕ) → w ≤ v → passes w ≡ true → passes v ≡ true = λ w v l e. lt-ltb m (2 ^ (v - 1)) (lt_of_lt_of_le (ltb-true m (2 ^ (w - 1)) e) (pow_mono {i = w - 1} {j = v - 1} (omega arith))) in
      let c : j + 1 - 1 ≡ j = omega arith in
      let most : n ≤ j + 1 = smallest_least passes up 31 (j + 1) (omega arith) (lt-ltb m (2 ^ (j + 1 - 1)) (rw c s.2)) in
      let at : m < 2 ^ (n - 1) = ltb-true m (2 ^ (n - 1)) (smallest_passes passes 31 (lt-ltb m (2 ^ 31) h)) in
      let least : j + 1 ≤ n = over j n (dec_le (j + 1) n) some at s.3 in
      omega (arith, s.1, most, least)
    where
      over : (j n : ℕ) → Dec (j + 1 ≤ n) → 0 < n → m < 2 ^ (n - 1) → 2 ^ j ≤ 2 * m + 1 → j + 1 ≤ n
      over j n (yes d) some a b = d
      over j n (no d) some a b =
          let e : suc (n - 1) ≤ j = omega arith in
          let p : 2 ^ suc (n - 1) ≤ 2 ^ j = pow_mono e in
          absurd (omega (arith, p, pow-suc 2 (n - 1), a, b))
