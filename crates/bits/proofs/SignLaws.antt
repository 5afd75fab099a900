-- Two's complement of a width: there and back, and which numbers fit.
use mathlib.Core.Path.{◌≡◌, refl, sym, ◌∙◌, ap, ap₂}
use mathlib.Core.Bool.{Bool, true, ◌&&◌}
use mathlib.Core.List.{List, [], ◌∷◌, ◌++◌, append_assoc}
use Prim.Native.Nat.{ℕ, zero, suc, ◌+◌, ◌-◌, ◌*◌, ◌^◌, ◌≤◌, ◌<◌}
use native.Mathlib.Nat.{pow-suc, lt_of_lt_of_le}
use native.Mathlib.Decide.{dec_le}
use native.Mathlib.Omega.{arith}
use lib.Dec.{ltb, leb}
use lib.ListN.{length, take, drop, length-drop, length-append}
use lib.Seq.{take_at, drop_at, take-add}
use lib.Pow.{pow_pos, pow_mono}
use lib.IntN.{ℤ, pos, negsuc, neg_ℤ}
use lib.Signed.{mag, le_z, lt_z}
use mir.Syntax.{w32}
use mir.Val.{to_z, of_z}
use borrow.Author.Tests.{ltb-true, lt-ltb, le-ltb, le-leb, lt-leb}
use Rattle.integers.proofs.Logic.{and_left, and_right, and_both}
use Rattle.bits.specs.Bits.{value, field}
use Rattle.bits.specs.Signs.{signed, unsigned, fits, all_fit, fields, numbers}
use Rattle.bits.proofs.BitLaws.{field-length, value_of, taken_below, field_back}

-- two halves of w bits
pub halves : (w : ℕ) → 0 < w → 2 ^ w ≡ 2 ^ (w - 1) + 2 ^ (w - 1)
halves zero h = absurd (omega arith)
halves (suc w) h =
    let e : suc w - 1 ≡ w = omega arith in
    rw e (pow-suc 2 w ∙ omega arith)

-- what `fits` says
pub fits_means : (w : ℕ) (z : ℤ) → fits w z ≡ (le_z (neg_ℤ (pos (2 ^ (w - 1)))) z && lt_z z (pos (2 ^ (w - 1))))
fits_means w z = go (2 ^ (w - 1)) z (pow_pos (w - 1))
  where
    less : (n m : ℕ) → ltb n (suc m) ≡ (leb n m && true)
    less n m = on (dec_le n m)
      where
        on : Dec (n ≤ m) → ltb n (suc m) ≡ (leb n m && true)
        on (yes h) = lt-ltb n (suc m) (omega arith) ∙ sym (ap (λ (b : Bool). b && true) (le-leb n m h))
        on (no h) = le-ltb n (suc m) (omega arith) ∙ sym (ap (λ (b : Bool). b && true) (lt-leb n m (omega arith)))

    go : (p : ℕ) (z : ℤ) → 0 < p → ltb (mag z) p ≡ (le_z (neg_ℤ (pos p)) z && lt_z z (pos p))
    go zero z h = absurd (omega arith)
    go (suc m) (pos n) h = refl
    go (suc m) (negsuc n) h = less n m

-- a number of w bits, and back
module _ (w : ℕ) (some : 0 < w) where
  pub signed_low : (n : ℕ) → n < 2 ^ (w - 1) → signed w n ≡ pos n
  signed_low n h = rw (lt-ltb n (2 ^ (w - 1)) h)

  pub signed_high : (n : ℕ) → 2 ^ (w - 1) ≤ n → signed w n ≡ negsuc (2 ^ w - suc n)
  signed_high n h = rw (le-ltb n (2 ^ (w - 1)) h)

  pub signed_unsigned : (z : ℤ) → fits w z ≡ true → signed w (unsigned w z) ≡ z
  signed_unsigned (pos n) h = signed_low n (ltb-true n (2 ^ (w - 1)) h)
  signed_unsigned (negsuc n) h =
      let l : n < 2 ^ (w - 1) = ltb-true n (2 ^ (w - 1)) h in
      let e : 2 ^ w - suc (2 ^ w - suc n) ≡ n = omega (arith, halves w some) in
      signed_high (2 ^ w - suc n) (omega (arith, halves w some)) ∙ ap negsuc e

  pub unsigned_below : (z : ℤ) → fits w z ≡ true → unsigned w z < 2 ^ w
  unsigned_below (pos n) h = omega (arith, ltb-true n (2 ^ (w - 1)) h, halves w some)
  unsigned_below (negsuc n) h = omega (arith, ltb-true n (2 ^ (w - 1)) h, halves w some)

  pub unsigned_signed : (n : ℕ) → n < 2 ^ w → unsigned w (signed w n) ≡ n
  unsigned_signed n h = go (dec_le (2 ^ (w - 1)) n)
    where
      go : Dec (2 ^ (w - 1) ≤ n) → unsigned w (signed w n) ≡ n
      go (yes k) = ap (unsigned w) (signed_high n k) ∙ omega arith
      go (no k) = ap (unsigned w) (signed_low n (omega arith))

  pub signed_fits : (n : ℕ) → n < 2 ^ w → fits w (signed w n) ≡ true
  signed_fits n h = go (dec_le (2 ^ (w - 1)) n)
    where
      go : Dec (2 ^ (w - 1) ≤ n) → fits w (signed w n) ≡ true
      go (yes k) = rw (signed_high n k) (lt-ltb (2 ^ w - suc n) (2 ^ (w - 1)) (omega (arith, halves w some)))
      go (no k) = rw (signed_low n (omega arith)) (lt-ltb n (2 ^ (w - 1)) (omega arith))

-- what fits a width fits every wider one
pub fits_wider : (w v : ℕ) (z : ℤ) → w ≤ v → fits w z ≡ true → fits v z ≡ true
fits_wider w v z h e = lt-ltb (mag z) (2 ^ (v - 1)) (lt_of_lt_of_le (ltb-true (mag z) (2 ^ (w - 1)) e) (pow_mono (omega arith)))

pub all_fit_wider : (l : List ℤ) (w v : ℕ) → w ≤ v → all_fit w l ≡ true → all_fit v l ≡ true
unfolding all_fit
all_fit_wider [] w v h e = refl
all_fit_wider (z ∷ l) w v h e =
    and_both (fits v z) (all_fit v l) (fits_wider w v z h (and_left (fits w z) (all_fit w l) e)) (all_fit_wider l w v h (and_right (fits w z) (all_fit w l) e))

-- signed numbers in w bits each
pub fields-length : (w : ℕ) (l : List ℤ) → length (fields w l) ≡ w * length l
unfolding fields
fields-length w [] = omega arith
fields-length w (z ∷ l) = length-append (field w (unsigned w z)) (fields w l) ∙ omega (arith, field-length w (unsigned w z), fields-length w l)

pub numbers-length : (w k : ℕ) (l : List Bool) → length (numbers w k l) ≡ k
unfolding numbers
numbers-length w zero l = refl
numbers-length w (suc k) l = ap suc (numbers-length w k (drop w l))

-- what is read of what is written, whatever stands behind it
pub numbers_fields : (w : ℕ) → 0 < w → (l : List ℤ) (rest : List Bool) → all_fit w l ≡ true → numbers w (length l) (fields w l ++ rest) ≡ l
unfolding numbers fields all_fit
numbers_fields w h [] rest e = refl
numbers_fields w h (z ∷ l) rest e =
    let c : fits w z ≡ true = and_left (fits w z) (all_fit w l) e in
    let n : length (field w (unsigned w z)) ≡ w = field-length w (unsigned w z) in
    let s : (field w (unsigned w z) ++ fields w l) ++ rest ≡ field w (unsigned w z) ++ (fields w l ++ rest) = append_assoc (field w (unsigned w z)) (fields w l) rest in
    ap₂ (λ (a : ℤ) (b : List ℤ). a ∷ b)
    (ap (λ (b : List Bool). signed w (value b)) (ap (take w) s ∙ take_at (field w (unsigned w z)) (fields w l ++ rest) w n)
    ∙ ap (signed w) (value_of w (unsigned w z) (unsigned_below w h z c)) ∙ signed_unsigned w h z c)
    (ap (numbers w (length l)) (ap (drop w) s ∙ drop_at (field w (unsigned w z)) (fields w l ++ rest) w n)
    ∙ numbers_fields w h l rest (and_right (fits w z) (all_fit w l) e))

-- what is written of what is read
pub fields_numbers : (w : ℕ) → 0 < w → (k : ℕ) (l : List Bool) → w * k ≤ length l → fields w (numbers w k l) ≡ take (w * k) l
unfolding numbers fields
fields_numbers w h zero l e = let z : w * 0 ≡ 0 = omega arith in rw z
fields_numbers w h (suc k) l e =
    let s : w * suc k ≡ w + w * k = omega arith in
    let d : w ≤ length l = omega arith in
    ap₂ (λ (a c : List Bool). a ++ c)
    (ap (field w) (unsigned_signed w h (value (take w l)) (taken_below w l d)) ∙ field_back w l d)
    (fields_numbers w h k (drop w l) (omega (arith, length-drop w l)))
    ∙ sym (ap (λ (m : ℕ). take m l) s ∙ take-add w (w * k) l)

-- and each of them fits
pub numbers_fit : (w : ℕ) → 0 < w → (k : ℕ) (l : List Bool) → w * k ≤ length l → all_fit w (numbers w k l) ≡ true
unfolding numbers all_fit
numbers_fit w h zero l e = refl
numbers_fit w h (suc k) l e =
    and_both (fits w (signed w (value (take w l)))) (all_fit w (numbers w k (drop w l)))
    (signed_fits w h (value (take w l)) (taken_below w l (omega arith))) (numbers_fit w h k (drop w l) (omega (arith, length-drop w l)))

-- at 32 bits these are the code's conversions
pub signed_word : (n : ℕ) → signed 32 n ≡ to_z w32 n
signed_word n = refl

pub unsigned_word : (z : ℤ) → unsigned 32 z ≡ of_z w32 z
unsigned_word (pos n) = refl
unsigned_word (negsuc n) = refl
