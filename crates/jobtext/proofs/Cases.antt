-- Worked files of both editions, and their text.
use mathlib.Core.Path.{◌≡◌, refl}
use mathlib.Core.Bool.{true, false}
use mathlib.Core.List.{[], ◌∷◌, ◌++◌}
use lib.IntN.ℤ.{pos, negsuc}
use Rattle.replies.specs.Ladder.{first_of}
use Rattle.grid.specs.Limits.{narrow, most, on_grid, all_on_grid}
use Rattle.buffer.specs.Sets.{joined}
use Rattle.bits.specs.Bits.{value, field, bits}
use Rattle.bits.specs.Signs.{all_fit}
use Rattle.bits.specs.Signs as Signs
use Rattle.bits.specs.Widths.{smallest}
use Rattle.setfile.specs.Entries.{entry}
use Rattle.setfile.specs.Layouts.{some_set, contours_in}
use Rattle.setfile.specs.Editions.{parsed}
use Rattle.report.specs.Text.{places, decimal}
use Rattle.jobtext.specs.Text.{shape, hole, head, numbers, line, lines, dumped}

-- shape 0 0 -12 5, and hole
a_shape : line (entry true (pos 0 ∷ pos 0 ∷ negsuc 11 ∷ pos 5 ∷ [])) ≡ shape ++ 32 ∷ 48 ∷ 32 ∷ 48 ∷ 32 ∷ 45 ∷ 49 ∷ 50 ∷ 32 ∷ 53 ∷ 10 ∷ []
unfolding numbers decimal places
a_shape = refl

an_empty_hole : line (entry false []) ≡ hole ++ 10 ∷ []
unfolding numbers
an_empty_hole = refl

refused_10 : dumped [] ≡ 114 ∷ 101 ∷ 102 ∷ 117 ∷ 115 ∷ 101 ∷ 100 ∷ 32 ∷ 49 ∷ 48 ∷ 10 ∷ []
unfolding dumped parsed bits field value first_of decimal places
refused_10 = refl

-- edition 1
none : dumped (16 ∷ 0 ∷ []) ≡ 101 ∷ 100 ∷ 105 ∷ 116 ∷ 105 ∷ 111 ∷ 110 ∷ 32 ∷ 49 ∷ 10 ∷ []
unfolding dumped parsed bits field value first_of decimal places contours_in some_set lines all_on_grid joined
none = refl

-- edition 1, and shape 0 0 4 2
two_points : dumped (16 ∷ 1 ∷ 128 ∷ 2 ∷ 0 ∷ 0 ∷ 0 ∷ 0 ∷ 0 ∷ 0 ∷ 0 ∷ 0 ∷ 0 ∷ 0 ∷ 0 ∷ 4 ∷ 0 ∷ 0 ∷ 0 ∷ 2 ∷ [])
    ≡ head false ++ shape ++ 32 ∷ 48 ∷ 32 ∷ 48 ∷ 32 ∷ 52 ∷ 32 ∷ 50 ∷ 10 ∷ []
unfolding dumped parsed bits field value first_of decimal places contours_in Signs.numbers some_set numbers lines narrow on_grid all_on_grid joined
two_points = refl

-- edition 2, and an empty shape: its width is 1
empty_second : dumped (32 ∷ 1 ∷ 128 ∷ 0 ∷ 4 ∷ []) ≡ 101 ∷ 100 ∷ 105 ∷ 116 ∷ 105 ∷ 111 ∷ 110 ∷ 32 ∷ 50 ∷ 10 ∷ shape ++ 10 ∷ []
unfolding dumped parsed bits field value first_of decimal places contours_in Signs.numbers some_set most smallest all_fit numbers lines all_on_grid joined
empty_second = refl
