-- Signed numbers and their bits, of any width.
use mathlib.Core.Path.{◌≡◌, refl, sym, ◌∙◌, ap, subst}
use mathlib.Core.Bool.{Bool, true, false}
use Prim.Native.Nat.{ℕ, zero, suc, ◌+◌, ◌-◌, ◌≤◌, ◌<◌, ◌^◌}
use native.Mathlib.Omega.{arith}
use native.Mathlib.Nat.{zero-add}
use native.Mathlib.Numerals.{add-one}
use lib.Dec.{T}
use lib.IntN.{ℤ, pos, negsuc, nat_abs, ◌-ℤ◌, +ℤ_comm, -ℤ_one}
use lib.Signed.{mag, lt_z, non_neg, nat_abs-le}
use mir.Syntax.{Width}
use mir.Val.{Fits, SFits, bits, hbits, to_z, of_z}
use mir.ValLaws.{pow-bits}
use mir.Facts.{to_z-of_z, to_z_pos, to_z-neg}
use borrow.Author.Rules.{sfits_of}
use borrow.Author.Tests.{ltb-true}

-- -1 - k
pub less : (k : ℕ) → negsuc 0 -ℤ pos k ≡ negsuc k
less zero = refl
less (suc m) = ap (λ (n : ℕ). negsuc (suc n)) (zero-add m)

-- from half of its values on, the bits of a width stand for a negative number: n for -1 - (top - n), where top is the largest
module _ (w : Width) (top n : ℕ) (all : suc top ≡ 2 ^ bits w) (high : top < n + 2 ^ hbits w) (within : n ≤ top) where
  below : negsuc 0 -ℤ to_z w (top - n) ≡ negsuc (top - n)
  below = ap (λ (z : ℤ). negsuc 0 -ℤ z) (to_z_pos w (omega arith)) ∙ less (top - n)

  pub below_fits : SFits w (negsuc 0 -ℤ to_z w (top - n))
  below_fits = subst (SFits w) (sym below) (sfits_of (omega arith))

  pub below_is : to_z w (of_z w (negsuc 0 -ℤ to_z w (top - n))) ≡ to_z w n
  below_is =
      let again : 2 ^ bits w - suc (top - n) ≡ n = omega (arith, all) in
      to_z-of_z below_fits ∙ below ∙ sym (to_z-neg w (top - n) (omega arith)) ∙ ap (to_z w) again

-- of a number z below zero, -1 - z is mag z, which is one less than its size
up : (z : ℤ) → lt_z z (pos 0) ≡ true → negsuc 0 -ℤ z ≡ pos (mag z)
up (pos n) t = let h : n < 0 = ltb-true n 0 t in absurd (omega arith)
up (negsuc k) t = +ℤ_comm (negsuc 0) (pos (suc k)) ∙ -ℤ_one (pos (suc k))

size : (z : ℤ) → lt_z z (pos 0) ≡ true → mag z + 1 ≡ nat_abs z
size (pos n) t = let h : n < 0 = ltb-true n 0 t in absurd (omega arith)
size (negsuc k) t = add-one k

-- a number of the width w, as the code holds it
module _ (w : Width) (z : ℤ) (f : SFits w z) where
  sign : {b : Bool} → lt_z (to_z w (of_z w z)) (pos 0) ≡ b → lt_z z (pos 0) ≡ b
  sign t = ap (λ (x : ℤ). lt_z x (pos 0)) (sym (to_z-of_z f)) ∙ t

  pub size_fits : Fits w (nat_abs z)
  size_fits = record { fits = omega (arith, nat_abs-le z f.sfits, f.sfits, pow-bits w) }

  module _ (t : lt_z (to_z w (of_z w z)) (pos 0) ≡ true) where
    rest : negsuc 0 -ℤ to_z w (of_z w z) ≡ pos (mag z)
    rest = ap (λ (x : ℤ). negsuc 0 -ℤ x) (to_z-of_z f) ∙ up z (sign t)

    pub rest_fits : SFits w (negsuc 0 -ℤ to_z w (of_z w z))
    rest_fits = subst (SFits w) (sym rest) (record { sfits = f.sfits })

    pub rest_is : to_z w (of_z w (negsuc 0 -ℤ to_z w (of_z w z))) ≡ pos (mag z)
    rest_is = to_z-of_z rest_fits ∙ rest

    pub rest_cast : T (non_neg (to_z w (of_z w (negsuc 0 -ℤ to_z w (of_z w z))))) × Fits w (nat_abs (to_z w (of_z w (negsuc 0 -ℤ to_z w (of_z w z)))))
    rest_cast = subst (λ (x : ℤ). T (non_neg x) × Fits w (nat_abs x)) (sym rest_is) (tt, record { fits = omega (arith, f.sfits, pow-bits w) })

    pub rest_bits : (top : ℕ) → suc top ≡ 2 ^ bits w → top - nat_abs (to_z w (of_z w (negsuc 0 -ℤ to_z w (of_z w z)))) ≡ of_z w z
    rest_bits top e = ap (λ (x : ℤ). top - nat_abs x) rest_is ∙ over z (sign t)
      where
        over : (y : ℤ) → lt_z y (pos 0) ≡ true → top - mag y ≡ of_z w y
        over (pos n) u = let h : n < 0 = ltb-true n 0 u in absurd (omega arith)
        over (negsuc k) u = omega (arith, e)

    pub rest_size : nat_abs (to_z w (of_z w (negsuc 0 -ℤ to_z w (of_z w z)))) + 1 ≡ nat_abs z
    rest_size = ap (λ (x : ℤ). nat_abs x + 1) rest_is ∙ size z (sign t)

  module _ (t : lt_z (to_z w (of_z w z)) (pos 0) ≡ false) where
    plain : (y : ℤ) → SFits w y → lt_z y (pos 0) ≡ false → T (non_neg y) × Fits w (nat_abs y)
    plain (pos n) g e = (tt, record { fits = omega (arith, g.sfits, pow-bits w) })
    plain (negsuc n) g e = absurd (subst T e tt)

    pub plain_bits : nat_abs (to_z w (of_z w z)) ≡ of_z w z
    plain_bits = ap nat_abs (to_z-of_z f) ∙ same z (sign t)
      where
        same : (y : ℤ) → lt_z y (pos 0) ≡ false → nat_abs y ≡ of_z w y
        same (pos n) u = refl
        same (negsuc k) u = absurd (subst T u tt)

    pub plain_cast : T (non_neg (to_z w (of_z w z))) × Fits w (nat_abs (to_z w (of_z w z)))
    plain_cast = subst (λ (x : ℤ). T (non_neg x) × Fits w (nat_abs x)) (sym (to_z-of_z f)) (plain z f (sign t))
