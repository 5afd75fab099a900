-- Worked files.
use Rattle.std.proofs.Common.{◌≡◌, ℕ, true, false, List, [], ◌∷◌, negsuc, refl}
use Rattle.replies.specs.Ladder.{first_of}
use Rattle.grid.specs.Limits.{narrow, on_grid, all_on_grid}
use Rattle.grid.specs.Cases.{W4}
use Rattle.buffer.specs.Sets.{joined}
use Rattle.bits.specs.Bits.{value, field, bits, bytes}
use Rattle.bits.specs.Signs.{fields, numbers}
use Rattle.setfile.specs.Entries.{entry}
use Rattle.setfile.specs.Layouts.{some_set, contours_in}
use Rattle.setfile.specs.Format.{file, parsed}
use Rattle.setfile.specs.Entries.Parsed.{carries, damaged}
use Rattle.setfile.specs.Editions as Editions
use Rattle.setfile.specs.Reading.{refusals}

-- 1001 8005 in hex, then the points of W4
abbrev file_of_w4 : List ℕ
file_of_w4 = 16 ∷ 1 ∷ 128 ∷ 5 ∷ 0 ∷ 0 ∷ 0 ∷ 0 ∷ 0 ∷ 0 ∷ 0 ∷ 0 ∷ 0 ∷ 0 ∷ 0 ∷ 2 ∷ 0 ∷ 0 ∷ 0 ∷ 0 ∷ 0 ∷ 0 ∷ 0 ∷ 4 ∷ 0 ∷ 0 ∷ 0 ∷ 0 ∷ 0 ∷ 0 ∷ 0 ∷ 4 ∷ 0 ∷ 0 ∷ 0 ∷ 4 ∷ 0 ∷ 0 ∷ 0 ∷ 0 ∷ 0 ∷ 0 ∷ 0 ∷ 4 ∷ []

w4_written : file (entry true W4 ∷ []) ≡ file_of_w4
unfolding file joined fields field value bytes
w4_written = refl

w4_read : parsed file_of_w4 ≡ carries (entry true W4 ∷ [])
unfolding parsed contours_in numbers some_set bits field value first_of
w4_read = refl

-- a point below zero, and an empty contour in the same shape
below-zero : parsed (16 ∷ 2 ∷ 128 ∷ 1 ∷ 255 ∷ 255 ∷ 255 ∷ 255 ∷ 224 ∷ 0 ∷ 0 ∷ 0 ∷ 0 ∷ 0 ∷ []) ≡ carries (entry true (negsuc 0 ∷ negsuc 536870911 ∷ []) ∷ entry false [] ∷ [])
unfolding parsed contours_in numbers some_set bits field value first_of
below-zero = refl

-- the empty set
none : file [] ≡ 16 ∷ 0 ∷ []
unfolding file joined fields field value bytes
none = refl

-- under two bytes, before the edition
one_byte : parsed (32 ∷ []) ≡ damaged 10
unfolding parsed bits field value first_of
one_byte = refl

another_edition : parsed (32 ∷ 0 ∷ []) ≡ damaged 9
unfolding parsed contours_in numbers some_set bits field value first_of
another_edition = refl

-- the first contour begins no shape, before its points are looked at
no_shape : parsed (16 ∷ 1 ∷ 0 ∷ 1 ∷ []) ≡ damaged 11
unfolding parsed contours_in numbers some_set bits field value first_of
no_shape = refl

no_header : parsed (16 ∷ 1 ∷ 128 ∷ []) ≡ damaged 10
unfolding parsed contours_in numbers some_set bits field value first_of
no_header = refl

no_points : parsed (16 ∷ 1 ∷ 128 ∷ 1 ∷ []) ≡ damaged 10
unfolding parsed contours_in numbers some_set bits field value first_of
no_points = refl

left_over : parsed (16 ∷ 1 ∷ 128 ∷ 0 ∷ 7 ∷ []) ≡ damaged 10
unfolding parsed contours_in numbers some_set bits field value first_of
left_over = refl

-- 536,870,912 is on the narrow grid, and 536,870,913 gets 3
the_last : first_of (refusals (16 ∷ 1 ∷ 128 ∷ 1 ∷ 32 ∷ 0 ∷ 0 ∷ 0 ∷ 224 ∷ 0 ∷ 0 ∷ 0 ∷ [])) ≡ 0
unfolding Editions.parsed contours_in numbers some_set bits field value first_of narrow on_grid all_on_grid joined
the_last = refl

past_the_last : first_of (refusals (16 ∷ 1 ∷ 128 ∷ 1 ∷ 32 ∷ 0 ∷ 0 ∷ 1 ∷ 0 ∷ 0 ∷ 0 ∷ 0 ∷ [])) ≡ 3
unfolding Editions.parsed contours_in numbers some_set bits field value first_of narrow on_grid all_on_grid joined
past_the_last = refl
