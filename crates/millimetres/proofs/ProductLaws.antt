-- 2,048 times a float below 2^20 is exact, and its whole part is enough to round by.
use Rattle.std.proofs.Common.{◌≡◌, ℕ, suc, ◌+◌, ◌-◌, ◌*◌, ◌/◌, ◌^◌, ◌<◌, ◌≤◌, min, Bool, true, false, T, ℤ, pos, negsuc, sym, ap, ◌∙◌, subst, lt_of_lt_of_le, le_of_lt, mul_assoc, mul_comm, div-lt_iff_lt-mul, mul-lt-mul_of_pos_right, mul-pos, one-mul, zero-mul, mul-one, arith, lit<, lit≤, lt→ltb, pow_pos, pow_mono, pow-add, shl_lt}
use native.Mathlib.Nat.{add-div_right, div-div-eq-div-mul, eq_of_mul-eq-mul_right, min-eq_left, zero-div}
use lib.Ieee.{Float, nan, inf, fin, binary64, up, down, round, mul, lt, fits, to_unsigned, of_bits}
use lib.Ieee.Fits.{down_pos}
use lib.Ieee.Nearest.{div_same}
use lib.Ieee.Exact.{HasValue, round_exact}
use Rattle.millimetres.specs.Scale.{near, size}
use Rattle.millimetres.specs.inside.Small.{Small}
use Rattle.millimetres.proofs.FloatLaws.{two_thousand, like, digits, deep}

product : (s : Bool) (m : ℕ) (e : ℤ) → T (fits binary64 (fin s m e)) → m * up e < 1048576 * down e
    → HasValue (round binary64 s (m * up e * 2048) (down e * 1)) s (m * up e * 2048) (down e * 1)
product s m (pos k) t h =
    round_exact binary64 s (m * 2 ^ k * 2048) 1 m (k + 1085) (lit< tt) (digits s m (pos k) t)
    (subst (λ (x : ℕ). x < 2 ^ 2098) (split k)
    (lt_of_lt_of_le (mul-lt-mul_of_pos_right {k = 2 ^ 1085} h (lit< tt)) (lit≤ tt)))
    (mul_assoc (m * 2 ^ k) 2048 (2 ^ 1074) ∙ split k ∙ sym (mul-one (m * 2 ^ (k + 1085))))
  where
    split : (k : ℕ) → m * 2 ^ k * 2 ^ 1085 ≡ m * 2 ^ (k + 1085)
    split k = mul_assoc m (2 ^ k) (2 ^ 1085) ∙ ap (λ (x : ℕ). m * x) (sym (pow-add 2 k 1085))
product s m (negsuc k) t h =
    let d : suc k ≤ 1074 = deep s m k t in
    let e : 1085 - suc k + suc k ≡ 1085 = omega arith in
    round_exact binary64 s (m * 1 * 2048) (2 ^ suc k * 1) m (1085 - suc k) (mul-pos (pow_pos (suc k)) (lit< tt)) (digits s m (negsuc k) t)
    (lt_of_lt_of_le (shl_lt 53 (1085 - suc k) (digits s m (negsuc k) t)) (pow_mono {j = 2098} (omega arith)))
    (ap (λ (x : ℕ). x * 2048 * 2 ^ 1074) (mul-one m)
    ∙ mul_assoc m 2048 (2 ^ 1074)
    ∙ ap (λ (x : ℕ). m * 2 ^ x) (sym e)
    ∙ ap (λ (x : ℕ). m * x) (pow-add 2 (1085 - suc k) (suc k))
    ∙ sym (mul_assoc m (2 ^ (1085 - suc k)) (2 ^ suc k))
    ∙ ap (λ (x : ℕ). m * 2 ^ (1085 - suc k) * x) (sym (mul-one (2 ^ suc k))))

-- 2,048 times a, as the code has it
abbrev pub times : Float → Float
times a = mul binary64 a (of_bits binary64 4656722014701092864)

product_exact : (s : Bool) (m : ℕ) (e : ℤ) → T (fits binary64 (fin s m e)) → m * up e < 1048576 * down e → HasValue (times (fin s m e)) s (m * up e * 2048) (down e)
unfolding mul
product_exact s m e t h =
    subst (λ (y : Float). HasValue (mul binary64 (fin s m e) y) s (m * up e * 2048) (down e)) (sym two_thousand)
    (subst (λ (b : Bool). HasValue (round binary64 b (m * up e * 2048) (down e * 1)) s (m * up e * 2048) (down e)) (sym (like s))
    (subst (λ (c : ℕ). HasValue (round binary64 s (m * up e * 2048) (down e * 1)) s (m * up e * 2048) c) (mul-one (down e)) (product s m e t h)))

-- y is a / c with the sign s, and 0 where that is minus
module _ (a c : ℕ) (C : 0 < c) (under : a < 2147483648 * c) where
  whole : (m : ℕ) (e : ℤ) → m * up e * c ≡ a * down e → m * up e / down e ≡ a / c
  whole m e v = div_same (m * up e) (down e) a c (down_pos e) C v

  few : a / c < 2147483648
  few = (div-lt_iff_lt-mul C).1 under

  cut : (y : Float) (s : Bool) → (s ≡ true → a ≡ 0) → HasValue y s a c → to_unsigned 64 y ≡ a / c
  unfolding to_unsigned
  cut nan s z v = absurd v
  cut (inf t) s z v = absurd v
  cut (fin true m e) s z v = sym (ap (λ (x : ℕ). x / c) (z (sym v.0)) ∙ zero-div c)
  cut (fin false m e) s z v = ap (λ (x : ℕ). min x (2 ^ 64 - 1)) (whole m e v.1) ∙ min-eq_left (le_of_lt (lt_of_lt_of_le few (lit≤ tt)))

  above : (y : Float) (s : Bool) → (s ≡ true → a ≡ 0) → HasValue y s a c → T (lt (fin true 1 (pos 0)) y)
  unfolding lt
  above nan s z v = absurd v
  above (inf t) s z v = absurd v
  above (fin true m e) s z v =
      lt→ltb (m * up e * 1) (1 * down e)
      (omega (
        arith,
        mul-one (m * up e),
        one-mul (down e),
        down_pos e,
        eq_of_mul-eq-mul_right c C (m * up e) 0 (v.1 ∙ ap (λ (x : ℕ). x * down e) (z (sym v.0)) ∙ zero-mul (down e) ∙ sym (zero-mul c)),
      ))
  above (fin false m e) s z v = lt→ltb 0 (1 * down e + m * up e * 1) (omega (arith, one-mul (down e), down_pos e))

  below : (y : Float) (s : Bool) → HasValue y s a c → T (lt y (fin false 1 (pos 64)))
  unfolding lt
  below nan s v = absurd v
  below (inf t) s v = absurd v
  below (fin true m e) s v = lt→ltb 0 (m * up e * 1 + 2 ^ 64 * down e) (omega (arith, down_pos e))
  below (fin false m e) s v =
      let x : m * up e < 2147483648 * down e = (div-lt_iff_lt-mul (down_pos e)).0 (subst (λ (q : ℕ). q < 2147483648) (sym (whole m e v.1)) few) in
      lt→ltb (m * up e * 1) (2 ^ 64 * down e) (omega (arith, mul-one (m * up e), down_pos e, x))

-- half of the next number up is the nearest
rounded : (a c : ℕ) → 0 < c → (a * 2048 / c + 1) / 2 ≡ near (1024 * a) c
unfolding near
rounded a c C =
    let twice : a * 2048 ≡ 2 * (1024 * a) = omega arith in
    ap (λ (x : ℕ). x / 2) (sym (add-div_right (a * 2048) C))
    ∙ div-div-eq-div-mul (a * 2048 + c) c 2
    ∙ ap (λ (x : ℕ). (x + c) / (c * 2)) twice
    ∙ ap (λ (x : ℕ). (2 * (1024 * a) + c) / x) (mul_comm c 2)

-- of a float that `steps` takes
pub record Cut (a : Float) : Type 0 where
  pub above : T (lt (fin true 1 (pos 0)) (times a))
  pub below : T (lt (times a) (fin false 1 (pos 64)))
  pub few : to_unsigned 64 (times a) < 2147483648
  pub rounds : (to_unsigned 64 (times a) + 1) / 2 ≡ size a

pub product_cut : (a : Float) → T (fits binary64 a) → Small a → Cut a
unfolding size
product_cut nan t h = absurd h
product_cut (inf s) t h = absurd h
product_cut (fin s m e) t h =
    let a = m * up e * 2048 in
    let under : a < 2147483648 * down e = omega (arith, h.1) in
    let none : (s ≡ true → a ≡ 0) = λ i. ap (λ (x : ℕ). x * up e * 2048) (h.0 i) ∙ ap (λ (x : ℕ). x * 2048) (zero-mul (up e)) in
    let value = product_exact s m e t h.1 in
    let is = cut a (down e) (down_pos e) under (times (fin s m e)) s none value in
    record {
      above = above a (down e) (down_pos e) under (times (fin s m e)) s none value;
      below = below a (down e) (down_pos e) under (times (fin s m e)) s value;
      few = subst (λ (x : ℕ). x < 2147483648) (sym is) (few a (down e) (down_pos e) under);
      rounds = ap (λ (x : ℕ). (x + 1) / 2) is ∙ rounded (m * up e) (down e) (down_pos e);
    }
