-- A ladder of refusals: conditions in the order in which they are told, each with its number.
use Rattle.std.specs.Prelude.{Bool, true, false, not, List, [], ◌∷◌, ℕ, eqb}

-- a condition and its number
abbrev pub Rung : Type 0
Rung = Bool × ℕ

-- the number of the first condition that holds, or 0
unfoldable pub first_of : List Rung → ℕ
first_of [] = 0
first_of (r ∷ ladder) = elim r.0 [ true ↦ r.1 | false ↦ first_of ladder ]

-- a refusal of which only the number is left
abbrev pub so_far : ℕ → List Rung
so_far refusal = (not (eqb refusal 0), refusal) ∷ []

-- 5: a row too short for what is to be written
abbrev pub room : Bool → List Rung
room enough = (not enough, 5) ∷ []
