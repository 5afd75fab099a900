-- What a character of a text means, by where its reader is.
use Rattle.std.specs.Prelude.{Bool, true, false, ◌&&◌, ◌||◌, List, [], ◌∷◌, ℕ, ◌+◌, ◌-◌, ◌*◌, eqb, ltb, leb, get_or}
use Rattle.jobread.specs.declared.Place.{Place}
use Rattle.jobread.specs.declared.Place.TheVariants.{Head, Start, Dash, Number, NoHead, NoLine}

-- the line of edition 1
abbrev pub first_head : List ℕ
first_head = 101 ∷ 100 ∷ 105 ∷ 116 ∷ 105 ∷ 111 ∷ 110 ∷ 32 ∷ 49 ∷ 10 ∷ []

-- behind k characters of the line of the edition: that of edition 2 has a 2 behind eight
unfoldable pub after_head : ℕ → ℕ → Place
after_head k c =
    elim (eqb c (get_or first_head k 0) || (eqb k 8 && eqb c 50)) [
      | true ↦ elim (ltb k 9) [ true ↦ Head (k + 1) | false ↦ Start ]
      | false ↦ NoHead
    ]

-- what a character is worth as a digit; 10 where it is none
unfoldable pub digit : ℕ → ℕ
digit c = elim (leb 48 c && leb c 57) [ true ↦ c - 48 | false ↦ 10 ]

-- where a number's first digit is due
unfoldable pub begun : Bool → ℕ → Place
begun below c = elim (ltb (digit c) 10) [ true ↦ Number below (digit c) | false ↦ NoLine ]

-- behind a space
unfoldable pub after_space : ℕ → Place
after_space c = elim (eqb c 45) [ true ↦ Dash | false ↦ begun false c ]

-- behind a dash, where no 0 is due
unfoldable pub after_dash : ℕ → Place
after_dash c = elim (eqb c 48) [ true ↦ NoLine | false ↦ begun true c ]

-- the largest size of a number
abbrev pub largest : ℕ
largest = 2147483647

-- a size with one digit more; where it is too large for any number it stays so
unfoldable pub more : ℕ → ℕ → ℕ
more size d = elim (ltb largest size) [ true ↦ size | false ↦ size * 10 + d ]

-- behind digits, with one more, which is due behind none that are just a 0
unfoldable pub after_digit : Bool → ℕ → ℕ → Place
after_digit below size d = elim (eqb size 0) [ true ↦ NoLine | false ↦ Number below (more size d) ]
