-- Digits in groups: a number is put group by group.
use mathlib.Core.Path.{◌≡◌, refl, sym, ◌∙◌, ap, ap₂}
use mathlib.Core.List.{List, [], ◌∷◌, ◌++◌, append_assoc, append-nil}
use Prim.Native.Nat.{ℕ, zero, suc, ◌+◌, ◌-◌, ◌*◌, ◌/◌, ◌%◌, ◌^◌, ◌≤◌, ◌<◌}
use native.Mathlib.Nat.{add-zero, add-suc, div-one, pow-succ', mul_comm, mod-lt, div-div-eq-div-mul, div-lt_iff_lt-mul, div-mul-le_self, div-le_self, le_trans, mul-le-mul_right, pow-le-pow_right}
use native.Mathlib.Omega.{arith}
use lib.Arith.{digits_div, digits_mod, mod-mul}
use lib.Dec.{lit<}
use lib.ListN.{length, set, length-append}
use lib.Pow.{pow-add}
use borrow.Author.Tests.{lt-ltb}
use Rattle.io.specs.Digits.{last_digits, hex_digit_ascii, IsDigitCount}
use Rattle.rows.specs.Rows.{placed}
use Rattle.rows.proofs.PlacedLaws.{set_placed}
use Rattle.report.specs.Text.{decimal, places}
use Rattle.report.specs.inside.Lines.{Put}
use Rattle.report.proofs.TextLaws.{decimal_is, digits-length, places_fewest}
use Rattle.report.proofs.PutLaws.{room_behind, both_put}

pow_positive : (k : ℕ) → 0 < 10 ^ k
pow_positive k = pow-le-pow_right (lit< tt) {i = 0} {j = k} (omega arith)

-- the last j + k digits are the last j of what stands before the last k, and those
pub digits_more : (j k n : ℕ) → last_digits 10 (j + k) n ≡ last_digits 10 j (n / 10 ^ k) ++ last_digits 10 k n
digits_more j zero n =
    ap₂ (λ (i m : ℕ). last_digits 10 i m) (add-zero j) (sym (div-one n)) ∙ sym (append-nil (last_digits 10 j (n / 1)))
digits_more j (suc k) n =
    let before : n / 10 / 10 ^ k ≡ n / 10 ^ suc k = div-div-eq-div-mul n 10 (10 ^ k) ∙ ap (λ (m : ℕ). n / m) (sym (pow-succ' 10 k)) in
    ap (λ (i : ℕ). last_digits 10 i n) (add-suc j k)
    ∙ ap (λ (l : List ℕ). l ++ (hex_digit_ascii (n % 10) ∷ [])) (digits_more j k (n / 10) ∙ ap (λ (m : ℕ). last_digits 10 j m ++ last_digits 10 k (n / 10)) before)
    ∙ append_assoc (last_digits 10 j (n / 10 ^ suc k)) (last_digits 10 k (n / 10)) (hex_digit_ascii (n % 10) ∷ [])

-- the last k digits of what is left by 10 ^ k
pub digits_low : (k n : ℕ) → last_digits 10 k (n % 10 ^ k) ≡ last_digits 10 k n
digits_low zero n = refl
digits_low (suc k) n =
    let e : n % 10 ^ suc k ≡ n / 10 % 10 ^ k * 10 + n % 10 =
    ap (λ (m : ℕ). n % m) (pow-succ' 10 k ∙ mul_comm 10 (10 ^ k)) ∙ mod-mul n (pow_positive k) (lit< tt) in
    let high : n % 10 ^ suc k / 10 ≡ n / 10 % 10 ^ k = ap (λ (m : ℕ). m / 10) e ∙ digits_div (n / 10 % 10 ^ k) (mod-lt n (lit< tt)) in
    let low : n % 10 ^ suc k % 10 ≡ n % 10 = ap (λ (m : ℕ). m % 10) e ∙ digits_mod (n / 10 % 10 ^ k) (mod-lt n (lit< tt)) in
    ap₂ (λ (h l : ℕ). last_digits 10 k h ++ (hex_digit_ascii l ∷ [])) high low
    ∙ ap (λ (d : List ℕ). d ++ (hex_digit_ascii (n % 10) ∷ [])) (digits_low k (n / 10))

-- a number of at least k + 1 digits: what stands before the last k, and those
module _ (k n : ℕ) (small : n < 2 ^ 64) (high : 10 ^ k ≤ n) where
  rest_some : 0 < n / 10 ^ k
  rest_some = go (n / 10 ^ k) refl
    where
      go : (m : ℕ) → n / 10 ^ k ≡ m → 0 < m
      go (suc m) e = omega arith
      go zero e =
          let l : n < 1 * 10 ^ k = (div-lt_iff_lt-mul {k = 10 ^ k} {x = n} {y = 1} (pow_positive k)).0 (omega (arith, e)) in
          absurd (omega arith)

  more_fewest : (r : ℕ) → IsDigitCount 10 1 (n / 10 ^ k) r → IsDigitCount 10 1 n (r + k)
  more_fewest r f =
      let below : n < 10 ^ r * 10 ^ k = (div-lt_iff_lt-mul {k = 10 ^ k} {x = n} {y = 10 ^ r} (pow_positive k)).0 f.1 in
      let from : 10 ^ (r - 1) ≤ n / 10 ^ k = lowest r f in
      let all : 10 ^ (r - 1) * 10 ^ k ≤ n = le_trans (mul-le-mul_right (10 ^ k) from) (div-mul-le_self n (10 ^ k)) in
      let e : r + k - 1 ≡ r - 1 + k = omega (arith, f.0) in (
        omega (arith, f.0),
        rw (pow-add 10 r k) below,
        λ q. rw (e, pow-add 10 (r - 1) k) all,
      )
    where
      lowest : (r : ℕ) → IsDigitCount 10 1 (n / 10 ^ k) r → 10 ^ (r - 1) ≤ n / 10 ^ k
      lowest zero f = absurd (omega (arith, f.0))
      lowest (suc zero) f = rest_some
      lowest (suc (suc r)) f = f.2 (omega arith)

  pub decimal_more : decimal n ≡ decimal (n / 10 ^ k) ++ last_digits 10 k n
  unfolding decimal
  decimal_more =
      let m : n / 10 ^ k ≤ n = div-le_self n (10 ^ k) in
      let f = places_fewest 19 (n / 10 ^ k) (omega arith) in
      sym (decimal_is n (places 19 (n / 10 ^ k) + k) small (more_fewest (places 19 (n / 10 ^ k)) f)) ∙ digits_more (places 19 (n / 10 ^ k)) k n

-- a number has as many digits as hold it
pub decimal_long : (k n : ℕ) → n < 2 ^ 64 → IsDigitCount 10 1 n k → length (decimal n) ≡ k
decimal_long k n h f = ap length (sym (decimal_is n k h f)) ∙ digits-length k n

-- and a number below 10 has one
pub one_digit : (n : ℕ) → n < 10 → IsDigitCount 10 1 n 1
one_digit n h = (omega arith, h, λ q. absurd (omega arith))

-- one digit is put
pub one_put : (text : List ℕ) (at n : ℕ) → n < 10 → at + 1 ≤ length text → Put at (last_digits 10 1 n) text (at + 1) (set text at (48 + n))
one_put text at n small h =
    let e : 48 + n ≡ 48 + n % 10 = omega (arith, small) in
    let g : hex_digit_ascii (n % 10) ≡ 48 + n % 10 = rw (lt-ltb (n % 10) 10 (mod-lt n (lit< tt))) in
    record {
      behind = refl;
      is = set_placed text at (48 + n) (omega arith) ∙ ap (λ (d : ℕ). placed at (d ∷ []) text) (e ∙ sym g);
    }

-- j digits are put, and k behind them
module _ {at : ℕ} {text : List ℕ} (j k n : ℕ) {r : ℕ} {t : List ℕ} (h : at + (j + k) ≤ length text) (p : Put at (last_digits 10 j (n / 10 ^ k)) text r t) where
  roomy : at + length (last_digits 10 j (n / 10 ^ k) ++ last_digits 10 k n) ≤ length text
  roomy = omega (arith, h, length-append (last_digits 10 j (n / 10 ^ k)) (last_digits 10 k n), digits-length j (n / 10 ^ k), digits-length k n)

  pub digits_room : r + k ≤ length t
  digits_room = omega (arith, room_behind p (last_digits 10 k n) roomy, digits-length k n)

  pub digits_put : {e : ℕ} {exit : List ℕ} → Put r (last_digits 10 k (n % 10 ^ k)) t e exit → Put at (last_digits 10 (j + k) n) text e exit
  digits_put q = rw (digits_more j k n) (both_put p (last_digits 10 k n) roomy (rw (sym (digits_low k n)) q))

-- a number of more than k digits is put: what stands before the last k, and those
module _ (at : ℕ) (text : List ℕ) (k n : ℕ) (small : n < 2 ^ 64) (high : 10 ^ k ≤ n) (h : at + length (decimal n) ≤ length text) where
  room_for_both : at + length (decimal (n / 10 ^ k) ++ last_digits 10 k n) ≤ length text
  room_for_both = rw (sym (decimal_more k n small high)) h

  pub rest_room : at + length (decimal (n / 10 ^ k)) ≤ length text
  rest_room = omega (arith, room_for_both, length-append (decimal (n / 10 ^ k)) (last_digits 10 k n))

  module _ {r : ℕ} {t : List ℕ} (p : Put at (decimal (n / 10 ^ k)) text r t) where
    pub last_room : r + k ≤ length t
    last_room = omega (arith, room_behind p (last_digits 10 k n) room_for_both, digits-length k n)

    pub last_put : {e : ℕ} {exit : List ℕ} → Put r (last_digits 10 k (n % 10 ^ k)) t e exit → Put at (decimal n) text e exit
    last_put q = rw (decimal_more k n small high) (both_put p (last_digits 10 k n) room_for_both (rw (sym (digits_low k n)) q))
