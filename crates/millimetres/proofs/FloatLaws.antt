-- The floats that the code names, and what it means that a float is one of 64 bits.
use Rattle.std.proofs.Common.{◌≡◌, ℕ, zero, suc, ◌*◌, ◌%◌, ◌^◌, ◌<◌, ◌≤◌, Bool, true, false, ◌&&◌, T, eqb, ltb, leb, ℤ, pos, negsuc, refl, le_trans, le_of_suc-le-suc, one-mul, lt_of_not-le, not-le_of_lt, arith, lit<, lit≤, eqb→eq, ltb→lt, leb→le}
use lib.Pow.{pow-lt}
use lib.Ieee.{fin, binary64, up, down, unlike, of_bits, fits}

pub nought : of_bits binary64 0 ≡ fin false 0 (pos 0)
unfolding of_bits
nought = refl

pub two_thousand : of_bits binary64 4656722014701092864 ≡ fin false 1 (pos 11)
unfolding of_bits
two_thousand = refl

-- half a unit past the last coordinate of a drawing: 1,073,741,825 / 2,048
pub edge : of_bits binary64 4692750811724251136 ≡ fin false 1073741825 (negsuc 10)
unfolding of_bits
edge = refl

pub like : (s : Bool) → unlike s false ≡ s
like true = refl
like false = refl

exponent : (j k : ℕ) → 2 ^ j ≤ 2 ^ k → j ≤ k
exponent j k h = le_of_suc-le-suc (lt_of_not-le (λ (g : suc k ≤ j). not-le_of_lt (pow-lt g) h))

second : (a b c d : Bool) → T (a && b && c && d) → T b
second true true c d t = tt
second true false c d t = absurd t
second false b c d t = absurd t

third : (a b c d : Bool) → T (a && b && c && d) → T c
third true true true d t = tt
third true true false d t = absurd t
third true false c d t = absurd t
third false b c d t = absurd t

-- it has at most 53 binary digits
pub digits : (s : Bool) (m : ℕ) (e : ℤ) → T (fits binary64 (fin s m e)) → m < 2 ^ 53
unfolding fits
digits s zero e t = lit< tt
digits s (suc m) e t =
    ltb→lt (suc m) (2 ^ 53)
    (second (eqb (suc m % 2) 1) (ltb (suc m) (2 ^ 53)) (leb (down e) (2 ^ 1074)) (ltb (suc m * up e) (2 ^ 1024 * down e)) t)

-- and at most 1,074 of them stand behind the point
pub deep : (s : Bool) (m k : ℕ) → T (fits binary64 (fin s m (negsuc k))) → suc k ≤ 1074
unfolding fits
deep s zero k t =
    exponent (suc k) 1074
    (le_trans (omega (arith, one-mul (2 ^ suc k), eqb→eq (1 * 2 ^ suc k) 1 t)) (lit≤ {m = 1} {n = 2 ^ 1074} tt))
deep s (suc m) k t =
    exponent (suc k) 1074
    (leb→le (2 ^ suc k) (2 ^ 1074)
    (third (eqb (suc m % 2) 1) (ltb (suc m) (2 ^ 53)) (leb (2 ^ suc k) (2 ^ 1074)) (ltb (suc m * 1) (2 ^ 1024 * 2 ^ suc k)) t))
