-- Whole bytes as one number, the first the most significant.
use Rattle.std.specs.Prelude.{◌≡◌, List, [], ◌∷◌, ℕ, zero, suc, ◌+◌, ◌-◌, ◌*◌, ◌/◌, ◌%◌, ◌^◌, ◌<◌, ◌≤◌, length, get_or, take, drop}
use Rattle.bits.specs.Bits.{value, bits}

-- the number in the first k bytes, 0 for each that is missing
unfoldable pub word : ℕ → List ℕ → ℕ
word zero f = 0
word (suc k) f = get_or f 0 0 * 2 ^ (8 * k) + word k (drop 1 f)

-- a number in k bytes
unfoldable pub spelled : ℕ → ℕ → List ℕ
spelled zero n = []
spelled (suc k) n = n / 2 ^ (8 * k) % 256 ∷ spelled k n

-- a field of w bits from bit `at` on lies within the bytes and, from its first byte on, within eight
pub record Within (f : List ℕ) (at w : ℕ) : Type 0 where
  pub some : 0 < w
  pub few : w ≤ 57
  pub room : at + w ≤ 8 * length f

-- the first v bits of a word of 64
abbrev pub leading : ℕ → ℕ → ℕ
leading r v = r / 2 ^ (64 - v)

-- a word that begins with the w bits from bit `at` on: shifted, it begins with each field within them
pub record Ahead (f : List ℕ) (at w r : ℕ) : Type 0 where
  pub below : r < 2 ^ 64
  pub is : (j v : ℕ) → j + v ≤ w → leading (r * 2 ^ j % 2 ^ 64) v ≡ value (take v (drop (at + j) (bits f)))
