-- Numbers and words as text, in ASCII.
use Rattle.std.specs.Prelude.{true, false, List, [], ◌∷◌, ◌++◌, ℕ, zero, suc, ◌^◌, ltb, ℤ}
use Rattle.std.proofs.Math.IntN.ℤ.{pos, negsuc}
use Rattle.io.specs.Digits.{last_digits}

-- how many decimal digits a number has, if at most k + 1
unfoldable pub places : ℕ → ℕ → ℕ
places zero n = 1
places (suc k) n = elim (ltb n (10 ^ suc k)) [ true ↦ places k n | false ↦ suc (suc k) ]

-- a number of at most 20 digits in decimal, as every number of the machine is
unfoldable pub decimal : ℕ → List ℕ
decimal n = last_digits 10 (places 19 n) n

-- a dash
abbrev pub dash : List ℕ
dash = 45 ∷ []

-- a space
abbrev pub space : List ℕ
space = 32 ∷ []

-- the end of a line
abbrev pub line_end : List ℕ
line_end = 10 ∷ []

-- a number with its sign, if it is below zero
abbrev pub signed : ℤ → List ℕ
signed (pos n) = decimal n
signed (negsuc n) = dash ++ decimal (suc n)

-- contour before after decisions area2
abbrev pub heading : List ℕ
heading =
    99 ∷ 111 ∷ 110 ∷ 116 ∷ 111 ∷ 117 ∷ 114 ∷ 32
    ∷ 98 ∷ 101 ∷ 102 ∷ 111 ∷ 114 ∷ 101 ∷ 32
    ∷ 97 ∷ 102 ∷ 116 ∷ 101 ∷ 114 ∷ 32
    ∷ 100 ∷ 101 ∷ 99 ∷ 105 ∷ 115 ∷ 105 ∷ 111 ∷ 110 ∷ 115 ∷ 32
    ∷ 97 ∷ 114 ∷ 101 ∷ 97 ∷ 50 ∷ 10 ∷ []

-- refused, and a space
abbrev pub refused : List ℕ
refused = 114 ∷ 101 ∷ 102 ∷ 117 ∷ 115 ∷ 101 ∷ 100 ∷ 32 ∷ []
