-- Sums modulo 2^64: a wrapped sum of residues is the residue of the sum, and the residue of an i64 reads back as that number.
use mathlib.Core.Path.{◌≡◌, refl, sym, ◌∙◌, ap}
use Prim.Native.Nat.{ℕ, ◌+◌, ◌*◌, ◌/◌, ◌%◌, ◌<◌, ◌^◌}
use native.Mathlib.Omega.{arith}
use native.Mathlib.Nat.{add-mul-mod_self_right}
use lib.IntN.{ℤ, pos, negsuc, neg_ℤ, ◌+ℤ◌, ◌-ℤ◌, +ℤ_assoc, +ℤ_comm, +ℤ_idl, +ℤ_invr}
use mir.Syntax.{w64}
use mir.Val.{SFits, to_z, of_z}
use mir.Facts.{to_z-of_z}
use Rattle.integers.specs.Linear.{at, num, ◌:+◌, ◌:-◌, above, below}
use Rattle.integers.specs.Modulo.{mod64}
use Rattle.integers.proofs.Linear.{same_parts}

-- n and z differ by multiples of 2^64
record Cong (n : ℕ) (z : ℤ) : Type 0 where
  pub q : ℕ
  pub r : ℕ
  pub eq : n + below z + q * 2 ^ 64 ≡ above z + r * 2 ^ 64

pub mod64_lt : (z : ℤ) → mod64 z < 2 ^ 64
unfolding mod64
mod64_lt (pos n) = omega arith
mod64_lt (negsuc n) = omega arith

mod64_cong : (z : ℤ) → Cong (mod64 z) z
unfolding mod64 above below
mod64_cong (pos n) = record { q = n / 2 ^ 64; r = 0; eq = omega arith }
mod64_cong (negsuc n) = record { q = 0; r = 1 + n / 2 ^ 64; eq = omega arith }

-- no other number below 2^64 is congruent
mod64_only : (z : ℤ) (m : ℕ) → m < 2 ^ 64 → Cong m z → m ≡ mod64 z
unfolding mod64 above below
mod64_only (pos n) m h c =
    let e : m + c.q * 2 ^ 64 ≡ n + c.r * 2 ^ 64 = omega (arith, c.eq) in
    let f : m % 2 ^ 64 ≡ n % 2 ^ 64 = sym (add-mul-mod_self_right m c.q (2 ^ 64)) ∙ ap (λ (x : ℕ). x % 2 ^ 64) e ∙ add-mul-mod_self_right n c.r (2 ^ 64) in
    omega arith
mod64_only (negsuc n) m h c =
    let e : (m + 1 + n % 2 ^ 64) + (n / 2 ^ 64 + c.q) * 2 ^ 64 ≡ 0 + c.r * 2 ^ 64 = omega (arith, c.eq) in
    let f : (m + 1 + n % 2 ^ 64) % 2 ^ 64 ≡ 0 % 2 ^ 64 = sym (add-mul-mod_self_right (m + 1 + n % 2 ^ 64) (n / 2 ^ 64 + c.q) (2 ^ 64)) ∙ ap (λ (x : ℕ). x % 2 ^ 64) e ∙ add-mul-mod_self_right 0 c.r (2 ^ 64) in
    omega arith

cong_add : (m : ℕ) (s t : ℤ) → Cong m s → Cong (mod64 (pos m +ℤ t)) (s +ℤ t)
cong_add m s t c =
    let d = mod64_cong (pos m +ℤ t) in
    record { q = c.q + d.q; r = c.r + d.r; eq = omega (arith, c.eq, d.eq, same_parts (at (pos m +ℤ t)) (num m :+ at t) refl, same_parts (at (s +ℤ t)) (at s :+ at t) refl) }

-- the term t goes onto the residue of s
pub mod64_add : (s t : ℤ) → mod64 (pos (mod64 s) +ℤ t) ≡ mod64 (s +ℤ t)
mod64_add s t = mod64_only (s +ℤ t) (mod64 (pos (mod64 s) +ℤ t)) (mod64_lt (pos (mod64 s) +ℤ t)) (cong_add (mod64 s) s t (mod64_cong s))

-- what agrees modulo 2^64 agrees below 0 too
pub mod64_negated : (s t : ℤ) → mod64 s ≡ mod64 t → mod64 (neg_ℤ s) ≡ mod64 (neg_ℤ t)
mod64_negated s t e =
    ap mod64 (sym (without t s)) ∙ sym (mod64_add t (neg_ℤ t -ℤ s))
    ∙ ap (λ (n : ℕ). mod64 (pos n +ℤ (neg_ℤ t -ℤ s))) (sym e)
    ∙ mod64_add s (neg_ℤ t -ℤ s) ∙ ap (λ (z : ℤ). mod64 (s +ℤ z)) (+ℤ_comm (neg_ℤ t) (neg_ℤ s)) ∙ ap mod64 (without s t)
  where
    without : (s t : ℤ) → s +ℤ (neg_ℤ s -ℤ t) ≡ neg_ℤ t
    without s t = sym (+ℤ_assoc s (neg_ℤ s) (neg_ℤ t)) ∙ ap (λ (z : ℤ). z -ℤ t) (+ℤ_invr s) ∙ +ℤ_idl (neg_ℤ t)

-- what the two wrapping operations give
pub wrap_add : (a b r : ℕ) → r ≡ (a + b) % 2 ^ 64 → r ≡ mod64 (pos a +ℤ pos b)
unfolding mod64
wrap_add a b r e = e

pub wrap_sub : (a b r : ℕ) → r < 2 ^ 64 → (r + b) % 2 ^ 64 ≡ a → r ≡ mod64 (pos a -ℤ pos b)
wrap_sub a b r h e = mod64_only (pos a -ℤ pos b) r h (record { q = 0; r = (r + b) / 2 ^ 64; eq = omega (arith, same_parts (at (pos a -ℤ pos b)) (num a :- num b) refl) })

-- back to a signed number
pub mod64_of_z : (z : ℤ) → SFits w64 z → mod64 z ≡ of_z w64 z
unfolding mod64
mod64_of_z (pos n) f = omega (arith, f.sfits)
mod64_of_z (negsuc n) f = omega (arith, f.sfits)

pub mod64_to_z : (z : ℤ) → SFits w64 z → to_z w64 (mod64 z) ≡ z
mod64_to_z z f = ap (to_z w64) (mod64_of_z z f) ∙ to_z-of_z f
