-- Differences and sums undo each other.
use mathlib.Core.Path.{◌≡◌, refl, ◌∙◌, ap, ap₂}
use mathlib.Core.List.{List, [], ◌∷◌}
use Prim.Native.Nat.{ℕ, zero, suc, ◌+◌, ◌<◌, ◌≤◌}
use native.Mathlib.Omega.{arith}
use lib.ListN.{length, drop, length-drop}
use lib.IntN.{ℤ, ◌+ℤ◌, ◌-ℤ◌}
use Rattle.integers.specs.Polynomial.{#, ◌:+◌, ◌:-◌}
use Rattle.integers.proofs.Polynomial.{ring}
use Rattle.steps.specs.Steps.{steps, sums, differences}
use Rattle.steps.specs.inside.Asked.{step}

up_again : (x u : ℤ) → x +ℤ (u -ℤ x) ≡ u
up_again x u = ring (# 0 :+ (# 1 :- # 0)) (# 1) (x ∷ u ∷ []) refl

down_again : (x d : ℤ) → (x +ℤ d) -ℤ x ≡ d
down_again x d = ring ((# 0 :+ # 1) :- # 0) (# 1) (x ∷ d ∷ []) refl

pub sums_steps : (x y : ℤ) (l : List ℤ) → sums x y (steps x y l) ≡ l
unfolding sums steps
sums_steps x y [] = refl
sums_steps x y (u ∷ l) =
    ap₂ (λ (a : ℤ) (b : List ℤ). a ∷ b) (up_again x u) (ap (λ (a : ℤ). sums y a (steps y u l)) (up_again x u) ∙ sums_steps y u l)

pub steps_sums : (x y : ℤ) (l : List ℤ) → steps x y (sums x y l) ≡ l
unfolding sums steps
steps_sums x y [] = refl
steps_sums x y (d ∷ l) = ap₂ (λ (a : ℤ) (b : List ℤ). a ∷ b) (down_again x d) (steps_sums y (x +ℤ d) l)

pub steps-length : (x y : ℤ) (l : List ℤ) → length (steps x y l) ≡ length l
unfolding steps
steps-length x y [] = refl
steps-length x y (u ∷ l) = ap suc (steps-length y u l)

pub sums-length : (x y : ℤ) (l : List ℤ) → length (sums x y l) ≡ length l
unfolding sums
sums-length x y [] = refl
sums-length x y (d ∷ l) = ap suc (sums-length y (x +ℤ d) l)

-- the differences from a position on: one more, and none
pub differences_more : (p : List ℤ) (k : ℕ) → k + 2 < length p → differences (drop k p) ≡ step p k ∷ differences (drop (k + 1) p)
unfolding steps
differences_more [] k h = absurd (omega arith)
differences_more (x ∷ []) k h = absurd (omega arith)
differences_more (x ∷ y ∷ []) k h = absurd (omega arith)
differences_more (x ∷ y ∷ u ∷ l) zero h = refl
differences_more (x ∷ y ∷ u ∷ l) (suc k) h =
    let a : suc k + 2 ≡ suc (k + 2) = omega arith in
    let b : suc k + 1 ≡ suc (k + 1) = omega arith in
    rw (a, b) (differences_more (y ∷ u ∷ l) k (omega arith))

pub differences_none : (p : List ℤ) (k : ℕ) → length p ≤ k + 2 → differences (drop k p) ≡ []
unfolding steps
differences_none p k h = few (drop k p) (omega (arith, length-drop k p))
  where
    few : (q : List ℤ) → length q ≤ 2 → differences q ≡ []
    few [] e = refl
    few (x ∷ []) e = refl
    few (x ∷ y ∷ []) e = refl
    few (x ∷ y ∷ u ∷ l) e = absurd (omega arith)
