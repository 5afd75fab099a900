-- Signed numbers in a field: two's complement of any width.
use Rattle.std.specs.Prelude.{Bool, true, ◌&&◌, List, [], ◌∷◌, ◌++◌, ℕ, zero, suc, ◌-◌, ◌^◌, ltb, take, drop, ℤ, pos, negsuc}
use Rattle.std.specs.Int.Signed.{mag}
use mir.Val.{sel}
use Rattle.bits.specs.Bits.{value, field}

-- the signed number that w bits are which are the number n: from half of their 2^w values on, n - 2^w
abbrev pub signed : ℕ → ℕ → ℤ
signed w n = sel (ltb n (2 ^ (w - 1))) (pos n) (negsuc (2 ^ w - suc n))

-- the number that the w bits of a signed number are
abbrev pub unsigned : ℕ → ℤ → ℕ
unsigned w (pos n) = n
unsigned w (negsuc n) = 2 ^ w - suc n

-- a number fits w bits: -2^(w - 1) ≤ z < 2^(w - 1), where mag n is n and mag (-1 - n) is n
abbrev pub fits : ℕ → ℤ → Bool
fits w z = ltb (mag z) (2 ^ (w - 1))

-- each of these does
unfoldable pub all_fit : ℕ → List ℤ → Bool
all_fit w [] = true
all_fit w (z ∷ l) = fits w z && all_fit w l

-- signed numbers in w bits each
unfoldable pub fields : ℕ → List ℤ → List Bool
fields w [] = []
fields w (z ∷ l) = field w (unsigned w z) ++ fields w l

-- the first k signed numbers of bits, each in w of them
unfoldable pub numbers : ℕ → ℕ → List Bool → List ℤ
numbers w zero l = []
numbers w (suc k) l = signed w (value (take w l)) ∷ numbers w k (drop w l)
