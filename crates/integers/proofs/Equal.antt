-- Equality of signed numbers: `==` of two signed locals compares their bits, `of_z w a` and `of_z w b`.
use mathlib.Core.Path.{◌≡◌, refl, sym, ◌∙◌, ap, subst}
use mathlib.Core.Bool.{Bool, true, false}
use Prim.Native.Nat.{ℕ, zero, suc, ◌*◌, ◌<◌}
use native.Mathlib.Nat.{mul-pos}
use native.Mathlib.Omega.{arith}
use lib.Dec.{T, eqb}
use lib.IntN.{ℤ, pos, negsuc, neg_ℤ, ◌*ℤ◌}
use mir.Syntax.{Width}
use mir.Val.{SFits, to_z, of_z}
use mir.Facts.{to_z-of_z}
use borrow.Author.Tests.{eqb-true, eqb-false, eq-eqb, ne_eqb}
use Rattle.integers.specs.Equal.{eq_z}

pub eq_z_true : (a b : ℤ) → eq_z a b ≡ true → a ≡ b
eq_z_true (pos a) (pos b) e = ap pos (eqb-true a b e)
eq_z_true (pos a) (negsuc b) e = absurd (subst T (sym e) tt)
eq_z_true (negsuc a) (pos b) e = absurd (subst T (sym e) tt)
eq_z_true (negsuc a) (negsuc b) e = ap negsuc (eqb-true a b e)

pub eq_z_same : (a : ℤ) → eq_z a a ≡ true
eq_z_same (pos a) = eq-eqb a a refl
eq_z_same (negsuc a) = eq-eqb a a refl

eq_eq_z : (a b : ℤ) → a ≡ b → eq_z a b ≡ true
eq_eq_z a b e = ap (λ (x : ℤ). eq_z a x) (sym e) ∙ eq_z_same a

ne_eq_z : (a b : ℤ) → (a ≡ b → ⊥) → eq_z a b ≡ false
ne_eq_z a b n = go (eq_z a b) refl
  where
    go : (t : Bool) → eq_z a b ≡ t → eq_z a b ≡ false
    go true e = absurd (n (eq_z_true a b e))
    go false e = e

module _ (w : Width) {a b : ℤ} (f : SFits w a) (g : SFits w b) where
  pub bits_eq : of_z w a ≡ of_z w b → a ≡ b
  bits_eq e = sym (to_z-of_z f) ∙ ap (to_z w) e ∙ to_z-of_z g

  pub bits_eqb : eqb (of_z w a) (of_z w b) ≡ eq_z a b
  bits_eqb = go (eqb (of_z w a) (of_z w b)) refl
    where
      go : (t : Bool) → eqb (of_z w a) (of_z w b) ≡ t → eqb (of_z w a) (of_z w b) ≡ eq_z a b
      go true e = e ∙ sym (eq_eq_z a b (bits_eq (eqb-true (of_z w a) (of_z w b) e)))
      go false e = e ∙ sym (ne_eq_z a b (λ h. eqb-false (of_z w a) (of_z w b) e (ap (of_z w) h)))

-- a product is not 0 where neither number is
positive : (m n : ℕ) → 0 < suc m * suc n
positive m n = mul-pos (omega arith) (omega arith)

above : (k : ℕ) → 0 < k → eq_z (pos k) (pos 0) ≡ false
above k h = ne_eqb k 0 (λ e. omega arith)

below : (k : ℕ) → 0 < k → eq_z (neg_ℤ (pos k)) (pos 0) ≡ false
below zero h = absurd (omega arith)
below (suc k) h = refl

pub eq_z_product : (a b : ℤ) → eq_z a (pos 0) ≡ false → eq_z b (pos 0) ≡ false → eq_z (a *ℤ b) (pos 0) ≡ false
eq_z_product (pos zero) b e f = absurd (subst T e tt)
eq_z_product (pos (suc m)) (pos zero) e f = absurd (subst T f tt)
eq_z_product (negsuc m) (pos zero) e f = absurd (subst T f tt)
eq_z_product (pos (suc m)) (pos (suc n)) e f = above (suc m * suc n) (positive m n)
eq_z_product (pos (suc m)) (negsuc n) e f = below (suc m * suc n) (positive m n)
eq_z_product (negsuc m) (pos (suc n)) e f = below (suc m * suc n) (positive m n)
eq_z_product (negsuc m) (negsuc n) e f = above (suc m * suc n) (positive m n)
