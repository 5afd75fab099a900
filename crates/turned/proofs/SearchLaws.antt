-- What a bounded search finds.
use mathlib.Core.Path.{◌≡◌, refl, sym, ◌∙◌, ap}
use mathlib.Core.Bool.{Bool, true, false, true≢false}
use Prim.Native.Nat.{ℕ, zero, suc, ◌<◌, ◌≤◌}
use native.Mathlib.Omega.{arith}
use native.Mathlib.Decide.{dec_lt}
use Rattle.integers.proofs.Logic.{and_left, and_right}
use Rattle.turned.specs.Search.{first_below, all_below}

-- r is the first number below n that passes, or n
pub record First (t : ℕ → Bool) (n r : ℕ) : Type 0 where
  pub within : r ≤ n
  pub passes : r < n → t r ≡ true
  pub before : (x : ℕ) → x < r → t x ≡ false

pub first_is : (t : ℕ → Bool) (n r : ℕ) → First t n r → r ≡ first_below t n
unfolding first_below
first_is t zero r f = omega (arith, f.within)
first_is t (suc n) zero f = rw (f.passes (omega arith), first_below)
first_is t (suc n) (suc r) f = rw (f.before 0 (omega arith), first_below) (ap suc (first_is (λ i. t (suc i)) n r (record {
  within = omega (arith, f.within);
  passes = λ h. f.passes (omega arith);
  before = λ x h. f.before (suc x) (omega arith);
})))

pub is_first : (t : ℕ → Bool) (n : ℕ) → First t n (first_below t n)
unfolding first_below
is_first t zero = record { within = omega arith; passes = λ h. absurd (omega arith); before = λ x h. absurd (omega arith) }
is_first t (suc n) = go (t 0) refl (is_first (λ i. t (suc i)) n)
  where
    go : (b : Bool) → t 0 ≡ b → First (λ i. t (suc i)) n (first_below (λ i. t (suc i)) n) → First t (suc n) (elim b [ true ↦ 0 | false ↦ suc (first_below (λ i. t (suc i)) n) ])
    go true e f = record { within = omega arith; passes = λ h. e; before = λ x h. absurd (omega arith) }
    go false e f = record { within = omega (arith, f.within); passes = λ h. f.passes (omega arith); before = at }
      where
        at : (x : ℕ) → x < suc (first_below (λ i. t (suc i)) n) → t x ≡ false
        at zero h = e
        at (suc x) h = f.before x (omega arith)

pub all_true : (t : ℕ → Bool) (n : ℕ) → ((x : ℕ) → x < n → t x ≡ true) → all_below t n ≡ true
unfolding all_below
all_true t zero f = refl
all_true t (suc n) f = rw (f 0 (omega arith)) (all_true (λ i. t (suc i)) n (λ x h. f (suc x) (omega arith)))

pub true_all : (t : ℕ → Bool) (n : ℕ) → all_below t n ≡ true → (x : ℕ) → x < n → t x ≡ true
unfolding all_below
true_all t zero e x h = absurd (omega arith)
true_all t (suc n) e zero h = and_left (t 0) (all_below (λ i. t (suc i)) n) e
true_all t (suc n) e (suc x) h = true_all (λ i. t (suc i)) n (and_right (t 0) (all_below (λ i. t (suc i)) n) e) x (omega arith)

-- what is not true is false
pub refuted : (t : Bool) → (t ≡ true → ⊥) → t ≡ false
refuted true n = absurd (n refl)
refuted false n = refl

-- whatever passes is no less than the first
pub first_least : (t : ℕ → Bool) (n x : ℕ) → t x ≡ true → first_below t n ≤ x
first_least t n x e = go (dec_lt x (first_below t n))
  where
    go : Dec (x < first_below t n) → first_below t n ≤ x
    go (yes h) = absurd (true≢false (sym e ∙ (is_first t n).before x h))
    go (no h) = omega arith
