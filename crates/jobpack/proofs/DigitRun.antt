-- A number that is read from its digits is the number.
use mathlib.Core.Path.{◌≡◌, refl, sym, ◌∙◌, ap, subst}
use mathlib.Core.Bool.{Bool, true, false}
use mathlib.Core.List.{[], ◌∷◌}
use Prim.Native.Nat.{ℕ, zero, suc, ◌+◌, ◌-◌, ◌*◌, ◌/◌, ◌%◌, ◌^◌, ◌≤◌, ◌<◌}
use native.Mathlib.Nat.{mod-lt, div-add-mod', div-lt_iff_lt-mul, div-le_self, pow-le-pow_right, le-div_iff_mul-le}
use native.Mathlib.Omega.{arith}
use lib.Dec.{T, leb, lit<}
use lib.IntN.{ℤ, nat_abs}
use lib.IntN.ℤ.{pos, negsuc}
use borrow.Author.Tests.{lt-ltb, le-ltb, le-leb, ne_eqb}
use Rattle.io.specs.Digits.{last_digits, hex_digit_ascii, IsDigitCount}
use Rattle.report.specs.Text.{places, decimal, signed}
use Rattle.report.proofs.TextLaws.{places_fewest}
use Rattle.jobread.specs.declared.Place.{Place}
use Rattle.jobread.specs.declared.Place.TheVariants.{Space, Dash, Number}
use Rattle.jobread.specs.Places.{digit, begun, after_space, after_dash, largest, more, after_digit}
use Rattle.jobread.specs.Reading.{State, state_at, in_number, step, run}
use Rattle.jobread.proofs.RunLaws.{run-append}

-- where the first digit of a number is due
abbrev opening : Bool → Place
opening true = Dash
opening false = Space

digit_is : (d : ℕ) → d < 10 → digit (48 + d) ≡ d
unfolding digit
digit_is d h =
    let a : leb 48 (48 + d) ≡ true = le-leb 48 (48 + d) (omega arith) in
    let b : leb (48 + d) 57 ≡ true = le-leb (48 + d) 57 (omega arith) in
    let e : 48 + d - 48 ≡ d = omega arith in
    rw (a, b, digit) e

begun_is : (below : Bool) (d : ℕ) → d < 10 → begun below (48 + d) ≡ Number below d
unfolding begun
begun_is below d h =
    let e = digit_is d h in
    rw (lt-ltb (digit (48 + d)) 10 (omega (arith, e)), begun) (ap (Number below) e)

dash_is : (d : ℕ) → d < 10 → 0 < d → after_dash (48 + d) ≡ Number true d
unfolding after_dash
dash_is d h p = rw (ne_eqb (48 + d) 48 (λ z. omega arith), after_dash) (begun_is true d h)

space_is : (d : ℕ) → d < 10 → after_space (48 + d) ≡ Number false d
unfolding after_space
space_is d h = rw (ne_eqb (48 + d) 45 (λ z. omega arith), after_space) (begun_is false d h)

first_digit : (s : State) (below : Bool) (d : ℕ) → d < 10 → (below ≡ true → 0 < d) → step (state_at s (opening below)) (48 + d) ≡ state_at s (Number below d)
unfolding step
first_digit s true d h p = ap (state_at s) (dash_is d h (p refl))
first_digit s false d h p = ap (state_at s) (space_is d h)

digit_more : (below : Bool) (n d : ℕ) → 0 < n → n ≤ largest → after_digit below n d ≡ Number below (n * 10 + d)
unfolding after_digit more
digit_more below n d p h = rw (ne_eqb n 0 (λ z. omega arith), after_digit, le-ltb largest n h, more)

number_more : (below : Bool) (n : ℕ) (s : State) (c : ℕ) → digit c < 10 → in_number below n s c ≡ state_at s (after_digit below n (digit c))
unfolding in_number
number_more below n s c h = rw (lt-ltb (digit c) 10 h, in_number)

next_digit : (s : State) (below : Bool) (n d : ℕ) → 0 < n → n ≤ largest → d < 10 → step (state_at s (Number below n)) (48 + d) ≡ state_at s (Number below (n * 10 + d))
unfolding step
next_digit s below n d p l h =
    let e = digit_is d h in
    number_more below n (state_at s (Number below n)) (48 + d) (omega (arith, e)) ∙ ap (state_at s) (ap (after_digit below n) e ∙ digit_more below n d p l)

glyph_is : (d : ℕ) → d < 10 → hex_digit_ascii d ≡ 48 + d
glyph_is d h = rw (lt-ltb d 10 h)

-- the digits of a number, of which the first is not 0
run_digits : (s : State) (below : Bool) (k n : ℕ) → 10 ^ k ≤ n → n < 10 ^ suc k → n ≤ largest → run (state_at s (opening below)) (last_digits 10 (suc k) n) ≡ state_at s (Number below n)
unfolding run
run_digits s below zero n a b l =
    let e : n % 10 ≡ n = omega arith in
    ap (λ (c : ℕ). step (state_at s (opening below)) c) (glyph_is (n % 10) (mod-lt n (lit< tt)) ∙ ap (λ (d : ℕ). 48 + d) e)
    ∙ first_digit s below n (omega arith) (λ z. omega arith)
run_digits s below (suc k) n a b l =
    let m : n / 10 ≤ n = div-le_self n 10 in
    let low : 10 ^ k ≤ n / 10 = (le-div_iff_mul-le {k = 10} {x = 10 ^ k} {y = n} (lit< tt)).1 (omega arith) in
    let high : n / 10 < 10 ^ suc k = (div-lt_iff_lt-mul {k = 10} {x = n} {y = 10 ^ suc k} (lit< tt)).1 (omega arith) in
    let some : 1 ≤ 10 ^ k = pow-le-pow_right (lit< tt) {i = 0} {j = k} (omega arith) in
    run-append (state_at s (opening below)) (last_digits 10 (suc k) (n / 10)) (hex_digit_ascii (n % 10) ∷ [])
    ∙ ap (λ (t : State). step t (hex_digit_ascii (n % 10))) (run_digits s below k (n / 10) low high (omega arith))
    ∙ ap (step (state_at s (Number below (n / 10)))) (glyph_is (n % 10) (mod-lt n (lit< tt)))
    ∙ next_digit s below (n / 10) (n % 10) (omega arith) (omega arith) (mod-lt n (lit< tt))
    ∙ ap (λ (w : ℕ). state_at s (Number below w)) (div-add-mod' n 10)

-- a number in decimal
run_decimal : (s : State) (below : Bool) (n : ℕ) → n ≤ largest → (below ≡ true → 0 < n) → run (state_at s (opening below)) (decimal n) ≡ state_at s (Number below n)
unfolding decimal run
run_decimal s below n l p = go (places 19 n) (places_fewest 19 n (omega arith))
  where
    go : (k : ℕ) → IsDigitCount 10 1 n k → run (state_at s (opening below)) (last_digits 10 k n) ≡ state_at s (Number below n)
    go zero f = absurd (omega (arith, f.0))
    go (suc zero) f =
        let h : n < 10 = omega (arith, f.1) in
        let e : n % 10 ≡ n = omega arith in
        ap (λ (c : ℕ). step (state_at s (opening below)) c) (glyph_is (n % 10) (mod-lt n (lit< tt)) ∙ ap (λ (d : ℕ). 48 + d) e) ∙ first_digit s below n h p
    go (suc (suc k)) f =
        let e : suc (suc k) - 1 ≡ suc k = omega arith in
        run_digits s below (suc k) n (rw e at (f.2 (omega arith))) f.1 l

false_true : false ≡ true → ⊥
false_true e = subst T (sym e) tt

-- whether a number is below zero
abbrev pub is_below : ℤ → Bool
is_below (pos n) = false
is_below (negsuc n) = true

-- a number with its sign, behind a space
pub run_signed : (s : State) (z : ℤ) → nat_abs z ≤ largest → run (state_at s Space) (signed z) ≡ state_at s (Number (is_below z) (nat_abs z))
unfolding run step after_space
run_signed s (pos n) h = run_decimal s false n h (λ z. absurd (false_true z))
run_signed s (negsuc n) h = run_decimal s true (suc n) h (λ z. omega arith)
