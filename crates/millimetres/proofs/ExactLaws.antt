-- x / 1,024 as a float is exact: x has at most 53 binary digits, and 1,024 is a power of two.
use Rattle.std.proofs.Common.{◌≡◌, ℕ, suc, ◌*◌, ◌^◌, ◌<◌, Bool, true, false, pos, negsuc, sym, refl, ap, ◌∙◌, subst, lt_of_lt_of_le, le_of_lt, mul_assoc, mul_comm, mul-pos, arith, lit<, lit≤, shl_lt}
use lib.Ieee.{Float, nan, inf, fin, binary64, up, down, round, div, of_int, of_bits, unlike}
use lib.Ieee.Fits.{down_pos}
use lib.Ieee.Exact.{HasValue, round_exact}
use lib.Ieee.Scale.{round_same}
use lib.Ieee.Back.{round_whole}
use Rattle.millimetres.specs.Scale.{millimetres}
use Rattle.millimetres.proofs.FloatLaws.{like}

-- 1,024 as a float
thousand : of_int binary64 (pos 1024) ≡ fin false 1 (pos 10)
unfolding of_int
thousand = refl

pub literal : of_bits binary64 4652218415073722368 ≡ of_int binary64 (pos 1024)
unfolding of_int of_bits
literal = refl

quotient : (s : Bool) (n : ℕ) → n < 2 ^ 53 → HasValue (round binary64 s n 1024) s n 1024
quotient s n h =
    round_exact binary64 s n 1024 n 1064 (lit< tt) h
    (lt_of_lt_of_le (shl_lt 53 1064 h) (lit≤ tt))
    (sym (mul_assoc n (2 ^ 1064) 1024))

divided : (y : Float) (s : Bool) (n : ℕ) → n < 2 ^ 53 → HasValue y s n 1 → HasValue (div binary64 y (fin false 1 (pos 10))) s n 1024
unfolding div
divided nan s n h v = absurd v
divided (inf t) s n h v = absurd v
divided (fin t m e) s n h v =
    let same : round binary64 (unlike t false) (m * up e * 1) (1024 * down e) ≡ round binary64 s n 1024 =
    ap (λ (b : Bool). round binary64 b (m * up e * 1) (1024 * down e)) (like t ∙ v.0)
    ∙ round_same binary64 s (m * up e * 1) (1024 * down e) n 1024 (mul-pos (lit< tt) (down_pos e)) (lit< tt)
    (ap (λ (k : ℕ). k * 1024) v.1 ∙ mul_assoc n (down e) 1024 ∙ ap (λ (k : ℕ). n * k) (mul_comm (down e) 1024)) in
    subst (λ (z : Float). HasValue z s n 1024) (sym same) (quotient s n h)

pub exact_from_zero : (n : ℕ) → n < 2 ^ 31 → HasValue (millimetres (pos n)) false n 1024
unfolding millimetres of_int
exact_from_zero n h =
    subst (λ (d : Float). HasValue (div binary64 (round binary64 false n 1) d) false n 1024) (sym thousand)
    (divided _ false n (lt_of_lt_of_le h (lit≤ tt)) (round_whole binary64 false n (le_of_lt (lt_of_lt_of_le h (lit≤ tt)))))

pub exact_below_zero : (n : ℕ) → n < 2 ^ 31 → HasValue (millimetres (negsuc n)) true (suc n) 1024
unfolding millimetres of_int
exact_below_zero n h =
    subst (λ (d : Float). HasValue (div binary64 (round binary64 true (suc n) 1) d) true (suc n) 1024) (sym thousand)
    (divided _ true (suc n) (omega arith) (round_whole binary64 true (suc n) (omega arith)))
