-- Worked files of edition 2.
use Rattle.std.proofs.Common.{◌≡◌, true, [], ◌∷◌, pos, negsuc, refl}
use Rattle.replies.specs.Ladder.{first_of}
use Rattle.grid.specs.Limits.{limit, most, on_grid, all_on_grid}
use Rattle.bits.specs.Bits.{value, field, bits, bytes}
use Rattle.bits.specs.Signs.{all_fit, fields, numbers}
use Rattle.bits.specs.Widths.{smallest}
use Rattle.buffer.specs.Sets.{joined}
use Rattle.setfile.specs.Entries.{entry}
use Rattle.setfile.specs.Entries.Parsed.{carries, damaged}
use Rattle.setfile.specs.Layouts.{file_in, some_set, contours_in}
use Rattle.steps.specs.Steps.{steps, sums}
use Rattle.setfile.specs.Edition2.{edition_2}
use Rattle.setfile.specs.Editions.{parsed}
use Rattle.setfile.specs.Reading.{refusals}

-- an empty contour, in hex 2001 8000 04: its width is 1
an_empty_contour : file_in 2 edition_2 (entry true [] ∷ []) ≡ 32 ∷ 1 ∷ 128 ∷ 0 ∷ 4 ∷ []
unfolding joined bytes field value fields smallest all_fit steps
an_empty_contour = refl

it_is_read : parsed (32 ∷ 1 ∷ 128 ∷ 0 ∷ 4 ∷ []) ≡ carries (entry true [] ∷ [])
unfolding parsed contours_in numbers some_set bits field value first_of most smallest all_fit
it_is_read = refl

-- a byte that is left over is told before a fill bit that is set
a_byte_is_left_over : parsed (32 ∷ 1 ∷ 128 ∷ 0 ∷ 5 ∷ 0 ∷ []) ≡ damaged 10
unfolding parsed contours_in numbers some_set bits field value first_of most smallest all_fit
a_byte_is_left_over = refl

a_fill_bit_is_set : parsed (32 ∷ 1 ∷ 128 ∷ 0 ∷ 5 ∷ []) ≡ damaged 16
unfolding parsed contours_in numbers some_set bits field value first_of most smallest all_fit
a_fill_bit_is_set = refl

-- an empty contour of width 2, and of width 0
not_the_smallest : parsed (32 ∷ 1 ∷ 128 ∷ 0 ∷ 8 ∷ []) ≡ damaged 15
unfolding parsed contours_in numbers some_set bits field value first_of most smallest all_fit
not_the_smallest = refl

no_width : parsed (32 ∷ 1 ∷ 128 ∷ 0 ∷ 0 ∷ []) ≡ damaged 15
unfolding parsed contours_in numbers some_set bits field value first_of most smallest all_fit
no_width = refl

-- two points of width 33: bits are missing by that width, and then all of them are there
bits_are_missing : parsed (32 ∷ 1 ∷ 128 ∷ 2 ∷ 132 ∷ 0 ∷ []) ≡ damaged 10
unfolding parsed contours_in numbers some_set bits field value first_of most smallest all_fit
bits_are_missing = refl

over_32 : parsed (32 ∷ 1 ∷ 128 ∷ 2 ∷ 132 ∷ 0 ∷ 0 ∷ 0 ∷ 0 ∷ 0 ∷ 0 ∷ 0 ∷ 0 ∷ 0 ∷ 0 ∷ 0 ∷ 0 ∷ 0 ∷ 0 ∷ 0 ∷ 0 ∷ []) ≡ damaged 15
unfolding parsed contours_in numbers some_set bits field value first_of most smallest all_fit
over_32 = refl

-- the header is missing; the first contour begins no shape, before its points are looked at
no_header : parsed (32 ∷ 1 ∷ 128 ∷ 0 ∷ []) ≡ damaged 10
unfolding parsed contours_in bits field value first_of
no_header = refl

no_shape : parsed (32 ∷ 1 ∷ 0 ∷ 1 ∷ 4 ∷ []) ≡ damaged 11
unfolding parsed contours_in numbers bits field value first_of most smallest all_fit
no_shape = refl

-- edition 1 is still read, and no other but these two is
the_first_edition : parsed (16 ∷ 1 ∷ 128 ∷ 0 ∷ []) ≡ carries (entry true [] ∷ [])
unfolding parsed contours_in numbers some_set bits field value first_of
the_first_edition = refl

another_edition : parsed (48 ∷ 0 ∷ []) ≡ damaged 9
unfolding parsed bits field value first_of
another_edition = refl

-- two points, a step of 1 and -2 apart: two bits each
two_points : file_in 2 edition_2 (entry true (pos 5 ∷ negsuc 0 ∷ pos 6 ∷ negsuc 2 ∷ []) ∷ []) ≡ 32 ∷ 1 ∷ 128 ∷ 2 ∷ 8 ∷ 0 ∷ 0 ∷ 0 ∷ 23 ∷ 255 ∷ 255 ∷ 255 ∷ 253 ∷ 128 ∷ []
unfolding joined bytes field value fields smallest all_fit steps
two_points = refl

they_are_read : parsed (32 ∷ 1 ∷ 128 ∷ 2 ∷ 8 ∷ 0 ∷ 0 ∷ 0 ∷ 23 ∷ 255 ∷ 255 ∷ 255 ∷ 253 ∷ 128 ∷ []) ≡ carries (entry true (pos 5 ∷ negsuc 0 ∷ pos 6 ∷ negsuc 2 ∷ []) ∷ [])
unfolding parsed contours_in numbers some_set bits field value first_of most smallest all_fit sums
they_are_read = refl

-- sums are exact and not modulo 2^32: one more than the largest i32 is off the grid
past_the_largest : parsed (32 ∷ 1 ∷ 128 ∷ 2 ∷ 9 ∷ 255 ∷ 255 ∷ 255 ∷ 252 ∷ 0 ∷ 0 ∷ 0 ∷ 1 ∷ 0 ∷ []) ≡ carries (entry true (pos 2147483647 ∷ pos 0 ∷ pos 2147483648 ∷ pos 0 ∷ []) ∷ [])
unfolding parsed contours_in numbers some_set bits field value first_of most smallest all_fit sums
past_the_largest = refl

off_the_grid : first_of (refusals (32 ∷ 1 ∷ 128 ∷ 2 ∷ 9 ∷ 255 ∷ 255 ∷ 255 ∷ 252 ∷ 0 ∷ 0 ∷ 0 ∷ 1 ∷ 0 ∷ [])) ≡ 3
unfolding parsed contours_in numbers some_set bits field value first_of most smallest all_fit sums joined limit on_grid all_on_grid
off_the_grid = refl

-- coordinates go to those of the wider grid: 1,073,741,823 is on it, and 1,073,741,824 gets 3
the_last : first_of (refusals (32 ∷ 1 ∷ 128 ∷ 1 ∷ 4 ∷ 255 ∷ 255 ∷ 255 ∷ 255 ∷ 0 ∷ 0 ∷ 0 ∷ 4 ∷ [])) ≡ 0
unfolding parsed contours_in numbers some_set bits field value first_of most smallest all_fit sums joined limit on_grid all_on_grid
the_last = refl

past_the_last : first_of (refusals (32 ∷ 1 ∷ 128 ∷ 1 ∷ 5 ∷ 0 ∷ 0 ∷ 0 ∷ 0 ∷ 0 ∷ 0 ∷ 0 ∷ 0 ∷ [])) ≡ 3
unfolding parsed contours_in numbers some_set bits field value first_of most smallest all_fit sums joined limit on_grid all_on_grid
past_the_last = refl
