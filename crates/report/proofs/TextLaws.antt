-- Numbers as text: how many digits they have, and that the digits that are put are theirs.
use mathlib.Core.Path.{◌≡◌, refl, sym, ◌∙◌, ap, subst}
use mathlib.Core.Bool.{Bool, true, false}
use mathlib.Core.List.{[], ◌∷◌, ◌++◌}
use Prim.Native.Nat.{ℕ, zero, suc, ◌-◌, ◌/◌, ◌%◌, ◌^◌, ◌≤◌, ◌<◌}
use native.Mathlib.Nat.{le_trans, lt_of_not-le, le_antisymm, pow-le-pow_right}
use native.Mathlib.Omega.{arith}
use native.Mathlib.Numerals.{add-one}
use borrow.Author.Tests.{ltb-true, ltb-false}
use lib.Dec.{T, ltb, lit<}
use lib.ListN.{length, length-append}
use mir.Syntax.{w64}
use mir.Val.{SFits, to_z, of_z}
use mir.Facts.{to_z-of_z}
use lib.Signed.{lt_z}
use lib.IntN.{ℤ, nat_abs}
use lib.IntN.ℤ.{pos, negsuc}
use Rattle.io.specs.Digits.{last_digits, hex_digit_ascii, IsDigitCount}
use Rattle.report.specs.Text.{places, decimal, dash, signed}

-- so many digits hold a number, and no fewer
pub places_fewest : (k n : ℕ) → n < 10 ^ suc k → IsDigitCount 10 1 n (places k n)
unfolding places
places_fewest zero n h = (omega arith, h, λ q. absurd (omega arith))
places_fewest (suc k) n h = go (ltb n (10 ^ suc k)) refl (places_fewest k n)
  where
    go : (b : Bool) → ltb n (10 ^ suc k) ≡ b → (n < 10 ^ suc k → IsDigitCount 10 1 n (places k n)) → IsDigitCount 10 1 n (elim b [ true ↦ places k n | false ↦ suc (suc k) ])
    go true e f = f (ltb-true n (10 ^ suc k) e)
    go false e f =
        let m : suc (suc k) - 1 ≡ suc k = omega arith in
        (omega arith, h, λ q. rw m (ltb-false n (10 ^ suc k) e))

fewest_least : (n r s : ℕ) → IsDigitCount 10 1 n r → 0 < s → n < 10 ^ s → r ≤ s
fewest_least n r s f z h =
    let l : r < suc s = lt_of_not-le (λ q. more q) in omega arith
  where
    more : suc s ≤ r → ⊥
    more q =
        let m : 10 ^ s ≤ n = le_trans (pow-le-pow_right (lit< tt) {i = s} {j = r - 1} (omega arith)) (f.2 (omega arith)) in
        omega arith

-- the digits that hold a number of the machine are its decimal
pub decimal_is : (n r : ℕ) → n < 2 ^ 64 → IsDigitCount 10 1 n r → last_digits 10 r n ≡ decimal n
unfolding decimal
decimal_is n r h f =
    let g = places_fewest 19 n (omega arith) in
    let e : r ≡ places 19 n = le_antisymm (fewest_least n r _ f g.0 g.1) (fewest_least n _ r g f.0 f.1) in
    ap (λ (k : ℕ). last_digits 10 k n) e

pub digits-length : (k n : ℕ) → length (last_digits 10 k n) ≡ k
digits-length zero n = refl
digits-length (suc k) n = length-append (last_digits 10 k (n / 10)) (hex_digit_ascii (n % 10) ∷ []) ∙ add-one _ ∙ ap suc (digits-length k (n / 10))

-- a number below 10 ^ k has at most k digits
pub decimal-length : (n k : ℕ) → 0 < k → k ≤ 20 → n < 10 ^ k → length (decimal n) ≤ k
unfolding decimal
decimal-length n k z l h =
    let m : 10 ^ k ≤ 10 ^ 20 = pow-le-pow_right (lit< tt) {i = k} {j = 20} l in
    rw (digits-length (places 19 n) n) (fewest_least n _ k (places_fewest 19 n (omega arith)) z h)

places_short : (k n : ℕ) → places k n ≤ suc k
unfolding places
places_short zero n = omega arith
places_short (suc k) n = go (ltb n (10 ^ suc k)) (places_short k n)
  where
    go : (b : Bool) → places k n ≤ suc k → elim b [ true ↦ places k n | false ↦ suc (suc k) ] ≤ suc (suc k)
    go true h = omega arith
    go false h = omega arith

-- none has more than 20
pub decimal_short : (n : ℕ) → length (decimal n) ≤ 20
unfolding decimal
decimal_short n = rw (digits-length (places 19 n) n) (places_short 19 n)

-- and one of 64 bits with its sign at most 20 places
pub signed-length : (z : ℤ) → SFits w64 z → length (signed z) ≤ 20
signed-length (pos n) f = decimal-length n 20 (omega arith) (omega arith) (omega (arith, f.sfits))
signed-length (negsuc n) f =
    let l = decimal-length (suc n) 19 (omega arith) (omega arith) (omega (arith, f.sfits)) in omega arith

-- the words that a number with its sign is put as
module _ (z : ℤ) (f : SFits w64 z) (m : ℕ) (e : m ≡ nat_abs (to_z w64 (of_z w64 z))) where
  pub signed_below : lt_z (to_z w64 (of_z w64 z)) (pos 0) ≡ true → signed z ≡ dash ++ decimal m
  signed_below t = go z (rw (to_z-of_z f) at t) ∙ ap (λ (k : ℕ). dash ++ decimal k) (sym (e ∙ ap nat_abs (to_z-of_z f)))
    where
      go : (z : ℤ) → lt_z z (pos 0) ≡ true → signed z ≡ dash ++ decimal (nat_abs z)
      go (pos n) t = let h : n < 0 = ltb-true n 0 t in absurd (omega arith)
      go (negsuc n) t = refl

  pub signed_above : lt_z (to_z w64 (of_z w64 z)) (pos 0) ≡ false → signed z ≡ decimal m
  signed_above t = go z (rw (to_z-of_z f) at t) ∙ ap decimal (sym (e ∙ ap nat_abs (to_z-of_z f)))
    where
      go : (z : ℤ) → lt_z z (pos 0) ≡ false → signed z ≡ decimal (nat_abs z)
      go (pos n) t = refl
      go (negsuc n) t = absurd (subst T t tt)
