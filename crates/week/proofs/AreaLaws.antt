-- Numbers of more than 64 bits as text.
use mathlib.Core.Path.{◌≡◌, sym, ◌∙◌, ap, ap₂, subst}
use mathlib.Core.Bool.{Bool, true, false}
use mathlib.Core.List.{List, ◌++◌}
use Prim.Native.Nat.{ℕ, suc, ◌+◌, ◌-◌, ◌*◌, ◌/◌, ◌%◌, ◌<◌, ◌≤◌, ◌^◌}
use native.Mathlib.Omega.{arith}
use lib.Dec.{T}
use lib.IntN.{ℤ, pos, negsuc, nat_abs}
use lib.Signed.{lt_z}
use borrow.Author.Tests.{ltb-true, lt-ltb, le-ltb}
use Rattle.io.specs.Digits.{last_digits}
use Rattle.report.specs.Text.{decimal, dash}
use Rattle.report.proofs.DigitLaws.{digits_low}
use Rattle.figures.specs.Halves.{high, low, whole}
use Rattle.figures.proofs.HalvesLaws.{whole_is}
use Rattle.week.specs.Table.{digits_by, long_decimal, long_signed}

-- high * 2^32 + low, divided by 10^8
module _ (h l : ℕ) where
  abbrev pub number : ℕ
  number = h * 2 ^ 32 + l

  abbrev pub rest : ℕ
  rest = h % 100000000 * 4294967296 + l

  abbrev pub front : ℕ
  front = h / 100000000 * 4294967296 + rest / 100000000

  front_is : front ≡ number / 10 ^ 8
  front_is = omega arith

  last_is : rest % 100000000 ≡ number % 10 ^ 8
  last_is =
      let w : number ≡ front * 100000000 + rest % 100000000 = omega arith in
      omega (arith, front_is, w)

  pub wide_short : front ≡ 0 → long_decimal number ≡ decimal (rest % 100000000)
  wide_short e =
      let s : number < 10 ^ 8 = omega arith in
      let r : number ≡ rest % 100000000 = omega arith in
      ap (λ (b : Bool). digits_by b number) (lt-ltb number (10 ^ 8) s) ∙ ap decimal r

  pub wide_long : (front ≡ 0 → ⊥) → long_decimal number ≡ decimal front ++ last_digits 10 8 (rest % 100000000)
  wide_long n =
      let s : 10 ^ 8 ≤ number = omega arith in
      ap (λ (b : Bool). digits_by b number) (le-ltb number (10 ^ 8) s)
      ∙ ap₂ (λ (a b : List ℕ). a ++ b) (ap decimal (sym front_is)) (sym (digits_low 8 number) ∙ ap (last_digits 10 8) (sym last_is))

-- an integer by its high and low parts
module _ (l : ℕ) (small : l < 2 ^ 32) where
  whole_above : (h : ℕ) → whole (pos h) l ≡ pos (h * 2 ^ 32 + l)
  unfolding high low
  whole_above h =
      let q : h ≡ (h * 2 ^ 32 + l) / 2 ^ 32 = omega arith in
      let r : l ≡ (h * 2 ^ 32 + l) % 2 ^ 32 = omega arith in
      ap₂ (λ (a b : ℕ). whole (pos a) b) q r ∙ whole_is (pos (h * 2 ^ 32 + l))

  whole_below : (m : ℕ) → whole (negsuc m) l ≡ negsuc (m * 2 ^ 32 + (2 ^ 32 - 1 - l))
  unfolding high low
  whole_below m =
      let n : ℕ = m * 2 ^ 32 + (2 ^ 32 - 1 - l) in
      let q : m ≡ (m * 2 ^ 32 + (2 ^ 32 - 1 - l)) / 2 ^ 32 = omega arith in
      let r : l ≡ 2 ^ 32 - suc ((m * 2 ^ 32 + (2 ^ 32 - 1 - l)) % 2 ^ 32) = omega arith in
      ap₂ (λ (a b : ℕ). whole (negsuc a) b) q r ∙ whole_is (negsuc n)

  pub area_above : (z : ℤ) → lt_z z (pos 0) ≡ false → long_signed (whole z l) ≡ long_decimal (nat_abs z * 2 ^ 32 + l)
  area_above (pos h) t = ap long_signed (whole_above h)
  area_above (negsuc m) t = absurd (subst T t tt)

  pub area_below : (z : ℤ) → lt_z z (pos 0) ≡ true → long_signed (whole z l) ≡ dash ++ long_decimal (nat_abs z * 2 ^ 32 - l)
  area_below (pos h) t = let g : h < 0 = ltb-true h 0 t in absurd (omega arith)
  area_below (negsuc m) t =
      let e : suc (m * 2 ^ 32 + (2 ^ 32 - 1 - l)) ≡ suc m * 2 ^ 32 - l = omega arith in
      ap long_signed (whole_below m) ∙ ap (λ (n : ℕ). dash ++ long_decimal n) e

-- below 0 one of the highs goes onto what the low lacks
pub none_lacking : (h l : ℕ) → l ≡ 0 → h * 2 ^ 32 + 0 ≡ h * 2 ^ 32 - l
none_lacking h l e = omega arith

pub some_lacking : (h l r : ℕ) → 0 < h → (l ≡ 0 → ⊥) → l < 2 ^ 32 → r < 2 ^ 32 → (r + l) % 2 ^ 32 ≡ 0 → (h - 1) * 2 ^ 32 + r ≡ h * 2 ^ 32 - l
some_lacking h l r p n s t e = omega arith

pub below_some : (z : ℤ) → lt_z z (pos 0) ≡ true → 0 < nat_abs z
below_some (pos h) t = let g : h < 0 = ltb-true h 0 t in absurd (omega arith)
below_some (negsuc m) t = omega arith
