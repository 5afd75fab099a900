-- The two cases of a test, of an equality and of an order.
use Prim.Native.Nat.{ℕ, ◌<◌, ◌≤◌}
use mathlib.Core.Path.{◌≡◌, refl, sym, ◌∙◌}
use mathlib.Core.Logic.{◌⊎◌, inl, inr, ⊎_elim}
use mathlib.Core.Bool.{Bool, true, false, true≢false}
use lib.Dec.{ltb, eqb}
use borrow.Author.Tests.{ltb-true, ltb-false, eqb-true, eqb-false}

pub which : (b : Bool) → (b ≡ true) ⊎ (b ≡ false)
which true = inl refl
which false = inr refl

pub same? : (p q : ℕ) → (p ≡ q) ⊎ (p ≡ q → ⊥)
same? p q = ⊎_elim (λ e. inl (eqb-true _ _ e)) (λ e. inr (eqb-false _ _ e)) (which (eqb p q))

pub less? : (p q : ℕ) → (p < q) ⊎ (q ≤ p)
less? p q = ⊎_elim (λ e. inl (ltb-true _ _ e)) (λ e. inr (ltb-false _ _ e)) (which (ltb p q))

-- A test doesn't come out both ways.
pub true_false : {A : Type 0} {b : Bool} → b ≡ true → b ≡ false → A
true_false p q = absurd (true≢false (sym p ∙ q))
