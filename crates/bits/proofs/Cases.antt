-- Worked numbers in bits.
use mathlib.Core.Path.{◌≡◌, refl}
use mathlib.Core.Bool.{true, false}
use mathlib.Core.List.{[], ◌∷◌, ◌++◌}
use lib.ListN.{take, drop}
use lib.IntN.{pos, negsuc}
use Rattle.bits.specs.Bits.{value, field, bits, bytes, fill}
use Rattle.bits.specs.Signs.{signed, unsigned, fits, all_fit, fields, numbers}
use Rattle.bits.specs.Widths.{smallest, width_of, width_for}

-- the most significant bit comes first
six_in_four_bits : field 4 6 ≡ false ∷ true ∷ true ∷ false ∷ []
unfolding field
six_in_four_bits = refl

its_number : value (false ∷ true ∷ true ∷ false ∷ []) ≡ 6
unfolding value
its_number = refl

-- a field over the boundary of two bytes: 1000 0000 0000 0101 has 5 in the 15 bits behind its first
across_bytes : value (take 15 (drop 1 (bits (128 ∷ 5 ∷ [])))) ≡ 5
unfolding value bits field
across_bytes = refl

-- 1, 15 and 6 bits, and two zero bits that fill the third byte
three_fields : bytes 3 (field 1 1 ++ field 15 0 ++ field 6 1 ++ field (fill 22) 0) ≡ 128 ∷ 0 ∷ 4 ∷ []
unfolding field value bytes
three_fields = refl

-- in three bits -4 to 3
the_least_of_three_bits : signed 3 4 ≡ negsuc 3
the_least_of_three_bits = refl

the_largest_of_three_bits : signed 3 3 ≡ pos 3
the_largest_of_three_bits = refl

back_to_its_bits : unsigned 3 (negsuc 3) ≡ 4
back_to_its_bits = refl

four_does_not_fit : fits 3 (pos 4) ≡ false
four_does_not_fit = refl

minus_four_does : fits 3 (negsuc 3) ≡ true
minus_four_does = refl

-- in one bit -1 and 0
one_bit : numbers 1 2 (true ∷ false ∷ []) ≡ negsuc 0 ∷ pos 0 ∷ []
unfolding numbers value
one_bit = refl

-- 1 and -2 in two bits each
two_numbers : fields 2 (pos 1 ∷ negsuc 1 ∷ []) ≡ false ∷ true ∷ true ∷ false ∷ []
unfolding fields field
two_numbers = refl

-- the smallest widths: 1 where there are none, and where all are 0 or -1
of_none : width_of [] ≡ 1
unfolding smallest all_fit
of_none = refl

of_one_step : width_of (pos 0 ∷ pos 1 ∷ negsuc 0 ∷ []) ≡ 2
unfolding smallest all_fit
of_one_step = refl

of_the_widest : width_of (negsuc 2147483647 ∷ []) ≡ 32
unfolding smallest all_fit
of_the_widest = refl

-- and by how far -5 reaches
by_its_reach : width_for 4 ≡ 4
unfolding smallest
by_its_reach = refl
