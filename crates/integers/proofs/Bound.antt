-- Bounds of sums, differences and products, and the step from a bound to "fits the type".
-- A signed local holds bits, so a need speaks of `to_z w (of_z w z)`: `back` says that it is z, and `back_in` that it has z's bound.
use mathlib.Core.Path.{◌≡◌, refl, sym, subst}
use mathlib.Core.Logic.{⊎_elim}
use mathlib.Core.Bool.{true, false}
use Prim.Native.Nat.{ℕ, zero, suc, ◌+◌, ◌*◌, ◌≤◌, ◌^◌}
use native.Mathlib.Omega.{arith}
use native.Mathlib.Nat.{mul-le-mul, le_refl, le_trans, lt_of_le_of_lt}
use lib.IntN.{ℤ, pos, negsuc, neg_ℤ, nat_abs, ◌+ℤ◌, ◌-ℤ◌, ◌*ℤ◌}
use lib.Dec.{T, leb, ltb, ltb→lt, leb→le}
use lib.Signed.{mag, le_z, lt_z, non_neg, pos-nat_abs}
use mir.Syntax.{Width, w64}
use mir.Val.{Fits, SFits, hbits, to_z, of_z}
use mir.Facts.{to_z-of_z}
use Rattle.integers.proofs.Ring.{◌⊖◌}
use Rattle.integers.specs.Linear.{Ex, at, num, ◌:+◌, ◌:-◌, :neg, value, up, dn, above, below}
use Rattle.integers.specs.Bound.{In}
use Rattle.integers.proofs.Linear.{parts, ⊖-can, le_means}

size_is : (z : ℤ) → nat_abs z ≡ above z + below z
unfolding above below
size_is (pos n) = omega arith
size_is (negsuc n) = omega arith

⊖-abs : (a b B : ℕ) → a ≤ b + B → b ≤ a + B → nat_abs (a ⊖ b) ≤ B
⊖-abs a b B p q = ⊎_elim
    (λ x. subst (λ (z : ℤ). nat_abs z ≤ B) (sym x.2) (omega (arith, x.1)))
    (λ x. subst (λ (z : ℤ). nat_abs z ≤ B) (sym x.2) (omega (arith, x.1)))
    (⊖-can a b)

in_by : (e : Ex) (B : ℕ) → up e ≤ dn e + B → dn e ≤ up e + B → In B (value e)
in_by e B p q = record { abs = subst (λ (z : ℤ). nat_abs z ≤ B) (sym (parts e)) (⊖-abs (up e) (dn e) B p q) }

-- a bound's two sides, for `omega`
sides : {B : ℕ} {z : ℤ} → In B z → above z + below z ≤ B
sides {B} {z} h = omega (arith, size_is z, h.abs)

abs_neg : (z : ℤ) → nat_abs (neg_ℤ z) ≡ nat_abs z
abs_neg (pos zero) = refl
abs_neg (pos (suc n)) = refl
abs_neg (negsuc n) = refl

abs_mul : (a b : ℤ) → nat_abs (a *ℤ b) ≡ nat_abs a * nat_abs b
abs_mul (pos a) (pos b) = refl
abs_mul (pos a) (negsuc b) = abs_neg (pos (a * suc b))
abs_mul (negsuc a) (pos b) = abs_neg (pos (suc a * b))
abs_mul (negsuc a) (negsuc b) = refl

-- of the parts' bounds
pub in_add : {A B : ℕ} {a b : ℤ} → In A a → In B b → In (A + B) (a +ℤ b)
in_add {A} {B} {a} {b} h k = in_by (at a :+ at b) (A + B) (omega (arith, sides h, sides k)) (omega (arith, sides h, sides k))

pub in_sub : {A B : ℕ} {a b : ℤ} → In A a → In B b → In (A + B) (a -ℤ b)
in_sub {A} {B} {a} {b} h k = in_by (at a :- at b) (A + B) (omega (arith, sides h, sides k)) (omega (arith, sides h, sides k))

pub in_mul : {A B : ℕ} {a b : ℤ} → In A a → In B b → In (A * B) (a *ℤ b)
in_mul {A} {B} {a} {b} h k = record { abs = rw (abs_mul a b) (mul-le-mul h.abs k.abs) }

pub in_pos : {n B : ℕ} → n ≤ B → In B (pos n)
in_pos h = record { abs = h }

-- `in_more tt h`: a larger bound, both numerals
pub in_more : {A B : ℕ} {z : ℤ} → T (leb A B) → In A z → In B z
in_more {A} {B} t h = record { abs = le_trans h.abs (leb→le A B t) }

pub in_eq : {B : ℕ} {y z : ℤ} → y ≡ z → In B z → In B y
in_eq {B} e h = subst (In B) (sym e) h

-- a signed width: B is a numeral, and `tt` proves that it is below the width's half
mag_abs : (z : ℤ) → mag z ≤ nat_abs z
mag_abs (pos n) = le_refl n
mag_abs (negsuc n) = omega arith

pub in_fits : {w : Width} {B : ℕ} {z : ℤ} → In B z → T (ltb B (2 ^ hbits w)) → SFits w z
in_fits {w} {B} {z} h t = record { sfits = lt_of_le_of_lt (mag_abs z) (lt_of_le_of_lt h.abs (ltb→lt B (2 ^ hbits w) t)) }

pub back : (w : Width) {B : ℕ} {z : ℤ} → In B z → T (ltb B (2 ^ hbits w)) → to_z w (of_z w z) ≡ z
back w {B} {z} h t = to_z-of_z {w = w} {z = z} (in_fits h t)

pub back_in : (w : Width) {B : ℕ} {z : ℤ} → In B z → T (ltb B (2 ^ hbits w)) → In B (to_z w (of_z w z))
back_in w {B} {z} h t = in_eq (back w h t) h

-- the two tests that a program makes
pub tests_in : (z : ℤ) (B : ℕ) → le_z (neg_ℤ (pos B)) z ≡ true → le_z z (pos B) ≡ true → In B z
tests_in z B p q = in_by (at z) B (omega (arith, le_means (at z) (num B) q)) (omega (arith, le_means (:neg (num B)) (at z) p))

-- `z as u64`, of a number that a test has shown not to be negative
not_neg : (z : ℤ) → lt_z z (pos 0) ≡ false → T (non_neg z)
not_neg (pos n) e = tt
not_neg (negsuc n) e = absurd (subst T e tt)

pub cast_u64 : {B : ℕ} {z : ℤ} → In B z → T (ltb B (2 ^ 64)) → lt_z z (pos 0) ≡ false → T (non_neg z) × Fits w64 (nat_abs z)
cast_u64 {B} {z} h t e = (not_neg z e, record { fits = lt_of_le_of_lt h.abs (ltb→lt B (2 ^ 64) t) })

pub cast_u64_is : (z : ℤ) → lt_z z (pos 0) ≡ false → pos (nat_abs z) ≡ z
cast_u64_is z e = pos-nat_abs z (not_neg z e)
