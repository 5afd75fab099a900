-- The nearest whole number to a fraction.
use Rattle.std.proofs.Common.{◌≡◌, ℕ, suc, ◌+◌, ◌-◌, ◌*◌, ◌/◌, ◌%◌, ◌<◌, ◌≤◌, ap, ◌∙◌, mod-lt, suc-mul, div-add-mod', mul_left_comm, arith}
use lib.Arith.{digits_div}
use Rattle.millimetres.specs.Scale.{near}

twice : (n c : ℕ) → n * (2 * c) ≡ 2 * (n * c)
twice n c = mul_left_comm n 2 c

-- it is at most a half off, and where it is a half off it is above
pub near_is : (a c : ℕ) → 0 < c → (2 * (near a c * c) ≤ 2 * a + c) × (2 * a < 2 * (near a c * c) + c)
unfolding near
near_is a c C =
    let n = near a c in
    let s : n * (2 * c) + (2 * a + c) % (2 * c) ≡ 2 * a + c = div-add-mod' (2 * a + c) (2 * c) in
    let l : (2 * a + c) % (2 * c) < 2 * c = mod-lt (2 * a + c) (omega arith) in
    (omega (arith, twice n c), omega (arith, twice n c))

-- no other number is
pub near_only : (a c n : ℕ) → 0 < c → 2 * (n * c) ≤ 2 * a + c → 2 * a < 2 * (n * c) + c → near a c ≡ n
unfolding near
near_only a c n C lo hi =
    let rest : 2 * a + c - 2 * (n * c) < 2 * c = omega arith in
    let whole : 2 * a + c ≡ n * (2 * c) + (2 * a + c - 2 * (n * c)) = omega (arith, twice n c) in
    ap (λ (x : ℕ). x / (2 * c)) whole ∙ digits_div n rest

-- a half goes up
pub near_half : (a c n : ℕ) → 0 < c → 2 * a ≡ 2 * (n * c) + c → near a c ≡ suc n
near_half a c n C e =
    let d : suc n * c ≡ n * c + c = suc-mul n c in
    near_only a c (suc n) C (omega (arith, d)) (omega (arith, d))

-- a multiple of c is its own nearest
pub near_whole : (n c : ℕ) → 0 < c → near (n * c) c ≡ n
near_whole n c C = near_only (n * c) c n C (omega arith) (omega arith)
