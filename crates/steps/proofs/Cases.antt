-- Worked contours.
use mathlib.Core.Path.{◌≡◌, refl}
use mathlib.Core.List.{List, [], ◌∷◌}
use lib.IntN.{ℤ, pos, negsuc}
use Rattle.bits.specs.Bits.{value, field, bits, bytes, padded}
use Rattle.bits.specs.Signs.{all_fit, fields, numbers}
use Rattle.bits.specs.Widths.{smallest}
use Rattle.grid.specs.Cases.{W4}
use Rattle.steps.specs.Steps.{steps, sums, differences}
use Rattle.steps.specs.Bodies.{contour_width, body, body_size, points_of_width}

-- from 5, -1 to 6, -1 and back to 4, -2
abbrev small : List ℤ
small = pos 5 ∷ negsuc 0 ∷ pos 6 ∷ negsuc 0 ∷ pos 4 ∷ negsuc 1 ∷ []

-- by 1, 0 and -2, -1, in two bits each: 01 00 10 11
small_steps : differences small ≡ pos 1 ∷ pos 0 ∷ negsuc 1 ∷ negsuc 0 ∷ []
unfolding steps
small_steps = refl

small_width : contour_width small ≡ 2
unfolding smallest all_fit steps
small_width = refl

small_written : padded (body small) ≡ 0 ∷ 0 ∷ 0 ∷ 5 ∷ 255 ∷ 255 ∷ 255 ∷ 255 ∷ 75 ∷ []
unfolding smallest all_fit steps fields field value bytes
small_written = refl

small_read : points_of_width 3 2 (bits (0 ∷ 0 ∷ 0 ∷ 5 ∷ 255 ∷ 255 ∷ 255 ∷ 255 ∷ 75 ∷ [])) ≡ small
unfolding sums numbers bits field value
small_read = refl

-- the differences of W4 go from -4 to 4, which is one more than three bits hold
four_up : contour_width W4 ≡ 4
unfolding smallest all_fit steps
four_up = refl

-- -4 alone is one that they hold
four_down : contour_width (pos 4 ∷ pos 0 ∷ pos 0 ∷ pos 3 ∷ []) ≡ 3
unfolding smallest all_fit steps
four_down = refl

-- the same point again, and one that lies -1, -1 from it
one_bit : contour_width (pos 3 ∷ pos 4 ∷ pos 3 ∷ pos 4 ∷ pos 2 ∷ pos 3 ∷ []) ≡ 1
unfolding smallest all_fit steps
one_bit = refl

-- from one end of the grid to the other
widest : contour_width (negsuc 1073741822 ∷ pos 0 ∷ pos 1073741823 ∷ pos 0 ∷ []) ≡ 32
unfolding smallest all_fit steps
widest = refl

-- one point has its 64 bits, and no point none
one_point : contour_width (pos 7 ∷ pos 8 ∷ []) ≡ 1
unfolding smallest all_fit steps
one_point = refl

one_point_size : body_size 1 1 ≡ 64
one_point_size = refl

no_point : body [] ≡ []
unfolding smallest all_fit fields
no_point = refl
