-- High and low make up their integer, and no other two do; and how the code tells them.
use mathlib.Core.Path.{◌≡◌, sym, ◌∙◌, ap}
use Prim.Native.Nat.{ℕ, ◌+◌, ◌-◌, ◌/◌, ◌%◌, ◌<◌, ◌^◌}
use native.Mathlib.Omega.{arith}
use lib.IntN.{ℤ, pos, negsuc, nat_abs}
use mir.Syntax.{w64}
use mir.Val.{SFits, to_z, of_z}
use mir.Facts.{to_z-of_z}
use Rattle.std.specs.Int.{int_div_euclid, int_rem_euclid}
use Rattle.integers.specs.Linear.{Ex, at, num, ◌:+◌, ◌:*◌, value, up, dn, above, below}
use Rattle.integers.proofs.Linear.{parts, same_parts}
use Rattle.integers.proofs.Ring.{⊖-eq}
use Rattle.figures.specs.Halves.{high, low, whole}

same_value : (e f : Ex) → up e + dn f ≡ up f + dn e → value e ≡ value f
same_value e f h = parts e ∙ ⊖-eq (up e) (dn e) (up f) (dn f) h ∙ sym (parts f)

-- low is from 0 to 2^32 - 1
pub low_small : (z : ℤ) → low z < 2 ^ 32
unfolding low
low_small (pos n) = omega arith
low_small (negsuc n) = omega arith

-- they make it up
pub whole_is : (z : ℤ) → whole (high z) (low z) ≡ z
unfolding high low above below
whole_is (pos n) = same_value (at (high (pos n)) :* num (2 ^ 32) :+ num (low (pos n))) (at (pos n)) (omega arith)
whole_is (negsuc n) = same_value (at (high (negsuc n)) :* num (2 ^ 32) :+ num (low (negsuc n))) (at (negsuc n)) (omega arith)

-- and no other two do
pub split_only : (z h : ℤ) (l : ℕ) → z ≡ whole h l → l < 2 ^ 32 → (high z ≡ h) × (low z ≡ l)
unfolding high low above below
split_only (pos n) (pos q) l e s =
    let f = same_parts (at (pos n)) (at (pos q) :* num (2 ^ 32) :+ num l) e in
    (ap pos (omega (arith, f)), omega (arith, f))
split_only (pos n) (negsuc q) l e s = absurd (omega (arith, same_parts (at (pos n)) (at (negsuc q) :* num (2 ^ 32) :+ num l) e))
split_only (negsuc n) (pos q) l e s = absurd (omega (arith, same_parts (at (negsuc n)) (at (pos q) :* num (2 ^ 32) :+ num l) e))
split_only (negsuc n) (negsuc q) l e s =
    let f = same_parts (at (negsuc n)) (at (negsuc q) :* num (2 ^ 32) :+ num l) e in
    (ap negsuc (omega (arith, f)), omega (arith, f))

-- the number as the code holds it
abbrev held : ℤ → ℤ
held z = to_z w64 (of_z w64 z)

-- the library's quotient and rest, rounded down
module _ (z : ℤ) (f : SFits w64 z) where
  pub high_is : held (int_div_euclid (held z) (pos (2 ^ 32))) ≡ high z
  unfolding high
  high_is = ap (λ (y : ℤ). held (int_div_euclid y (pos (2 ^ 32)))) (to_z-of_z f) ∙ go z f
    where
      go : (z : ℤ) → SFits w64 z → held (int_div_euclid z (pos (2 ^ 32))) ≡ high z
      go (pos n) f = to_z-of_z {w = w64} {z = pos (n / 2 ^ 32)} (record { sfits = omega (arith, f.sfits) })
      go (negsuc n) f = to_z-of_z {w = w64} {z = negsuc (n / 2 ^ 32)} (record { sfits = omega (arith, f.sfits) })

  pub low_is : nat_abs (held (int_rem_euclid (held z) (pos (2 ^ 32)))) ≡ low z
  unfolding low
  low_is = ap (λ (y : ℤ). nat_abs (held (int_rem_euclid y (pos (2 ^ 32))))) (to_z-of_z f) ∙ go z
    where
      go : (z : ℤ) → nat_abs (held (int_rem_euclid z (pos (2 ^ 32)))) ≡ low z
      go (pos n) = ap nat_abs (to_z-of_z {w = w64} {z = pos (n % 2 ^ 32)} (record { sfits = omega arith }))
      go (negsuc n) = ap nat_abs (to_z-of_z {w = w64} {z = pos (2 ^ 32 - 1 - n % 2 ^ 32)} (record { sfits = omega arith })) ∙ omega arith
