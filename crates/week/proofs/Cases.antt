-- Worked cases: files one behind the other.
use mathlib.Core.Path.{◌≡◌, refl}
use mathlib.Core.List.{List, [], ◌∷◌, ◌++◌}
use Prim.Native.Nat.{ℕ}
use Rattle.replies.specs.Ladder.{first_of}
use Rattle.bits.specs.Bits.{value, field, bits}
use Rattle.week.specs.Files.{bit_behind, own_length}

-- an empty set in edition 1
abbrev nothing : List ℕ
nothing = 16 ∷ 0 ∷ []

-- one point in edition 1
abbrev point : List ℕ
point = 16 ∷ 1 ∷ 128 ∷ 1 ∷ 0 ∷ 0 ∷ 0 ∷ 7 ∷ 0 ∷ 0 ∷ 0 ∷ 9 ∷ []

-- an empty contour in edition 2, whose last byte two fill bits end
abbrev filled_up : List ℕ
filled_up = 32 ∷ 1 ∷ 128 ∷ 0 ∷ 4 ∷ []

in_turn : (own_length (nothing ++ point) ≡ 2) × (own_length (point ++ filled_up) ≡ 12) × (own_length (filled_up ++ nothing) ≡ 5) × (own_length filled_up ≡ 5)
unfolding own_length bit_behind bits field value first_of
in_turn = (refl, refl, refl, refl)

-- a point that is not all there, a header that is not, a head that is not, and another edition
not_told : (own_length (16 ∷ 1 ∷ 128 ∷ 1 ∷ 0 ∷ []) ≡ 0) × (own_length (32 ∷ 1 ∷ 128 ∷ []) ≡ 0) × (own_length (16 ∷ []) ≡ 0) × (own_length (48 ∷ 0 ∷ nothing) ≡ 0)
unfolding own_length bit_behind bits field value first_of
not_told = (refl, refl, refl, refl)
