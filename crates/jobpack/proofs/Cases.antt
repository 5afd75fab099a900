-- Worked texts, and what is made of them.
use mathlib.Core.Path.{◌≡◌, refl}
use mathlib.Core.List.{[], ◌∷◌, ◌++◌}
use Rattle.jobread.specs.Places.{first_head, after_head, digit, begun, after_space, after_dash, more, after_digit}
use Rattle.jobread.specs.Reading.{after_start, ended, behind, in_word, in_number, step, run}
use Rattle.jobpack.specs.Packing.{refusing, damaging, packed}

-- nothing
none : packed [] ≡ damaging 1
unfolding packed run
none = refl

-- edition 1, without its end
open_head : packed (101 ∷ 100 ∷ 105 ∷ 116 ∷ 105 ∷ 111 ∷ 110 ∷ 32 ∷ 49 ∷ []) ≡ damaging 1
unfolding packed run step after_head
open_head = refl

-- a hole before any shape
hole_first : packed (first_head ++ 104 ∷ 111 ∷ 108 ∷ 101 ∷ 10 ∷ []) ≡ damaging 2
unfolding packed run step after_head after_start in_word behind ended
hole_first = refl

-- shape 7: an odd count of numbers, in the third line, behind an empty shape
odd : packed (first_head ++ 115 ∷ 104 ∷ 97 ∷ 112 ∷ 101 ∷ 10 ∷ 115 ∷ 104 ∷ 97 ∷ 112 ∷ 101 ∷ 32 ∷ 55 ∷ 10 ∷ []) ≡ damaging 3
unfolding packed run step after_head after_start in_word behind ended after_space begun digit in_number
odd = refl

-- shape -0: a number that has another form
minus_nought : packed (first_head ++ 115 ∷ 104 ∷ 97 ∷ 112 ∷ 101 ∷ 32 ∷ 45 ∷ 48 ∷ 32 ∷ 49 ∷ 10 ∷ []) ≡ damaging 2
unfolding packed run step after_head after_start in_word behind after_space after_dash
minus_nought = refl

-- shape 2147483648 0: no i32
too_large : packed (first_head ++ 115 ∷ 104 ∷ 97 ∷ 112 ∷ 101 ∷ 32 ∷ 50 ∷ 49 ∷ 52 ∷ 55 ∷ 52 ∷ 56 ∷ 51 ∷ 54 ∷ 52 ∷ 56 ∷ 32 ∷ 48 ∷ 10 ∷ []) ≡ refusing 3
unfolding packed run step after_head after_start in_word behind after_space begun digit in_number after_digit more
too_large = refl
