-- Sets that are written, and sets that are refused.
use Rattle.std.proofs.Common.{◌≡◌, ℕ, List, [], ◌∷◌, refl}
use lib.IntN.ℤ.{pos, negsuc}
use Rattle.grid.specs.Limits.{narrow, most, on_grid, all_on_grid}
use Rattle.replies.specs.Ladder.{first_of}
use Rattle.buffer.specs.Spans.{sound_from}
use Rattle.buffer.specs.Sets.{joined}
use Rattle.bits.specs.Bits.{value, field, bytes}
use Rattle.bits.specs.Signs.{fields}
use Rattle.setfile.specs.Format.{file}
use Rattle.setfile.specs.Writing.{some_over, some_empty, leaving, outcome}

-- one record, from 0 on
abbrev to : ℕ → List (List ℕ)
to n = (0 ∷ n ∷ []) ∷ []

nothing : outcome [] [] [] (7 ∷ 7 ∷ 7 ∷ []) ≡ leaving 0 2 (16 ∷ 0 ∷ 7 ∷ [])
unfolding outcome first_of most narrow on_grid all_on_grid sound_from some_over some_empty joined fields value field bytes file
nothing = refl

an_empty_contour : outcome [] (to 0) (to 1) (7 ∷ 7 ∷ 7 ∷ 7 ∷ []) ≡ leaving 0 4 (16 ∷ 1 ∷ 128 ∷ 0 ∷ [])
unfolding outcome first_of most narrow on_grid all_on_grid sound_from some_over some_empty joined fields value field bytes file
an_empty_contour = refl

a_hole : outcome [] ((0 ∷ 0 ∷ []) ∷ (0 ∷ 0 ∷ []) ∷ []) (to 2) (7 ∷ 7 ∷ 7 ∷ 7 ∷ 7 ∷ 7 ∷ 7 ∷ []) ≡ leaving 0 6 (16 ∷ 2 ∷ 128 ∷ 0 ∷ 0 ∷ 0 ∷ 7 ∷ [])
unfolding outcome first_of most narrow on_grid all_on_grid sound_from some_over some_empty joined fields value field bytes file
a_hole = refl

a_point : outcome (pos 2 ∷ negsuc 0 ∷ []) (to 1) (to 1) (7 ∷ 7 ∷ 7 ∷ 7 ∷ 7 ∷ 7 ∷ 7 ∷ 7 ∷ 7 ∷ 7 ∷ 7 ∷ 7 ∷ [])
    ≡ leaving 0 12 (16 ∷ 1 ∷ 128 ∷ 1 ∷ 0 ∷ 0 ∷ 0 ∷ 2 ∷ 255 ∷ 255 ∷ 255 ∷ 255 ∷ [])
unfolding outcome first_of most narrow on_grid all_on_grid sound_from some_over some_empty joined fields value field bytes file
a_point = refl

one_byte_short : outcome [] [] [] (7 ∷ []) ≡ leaving 5 0 (7 ∷ [])
unfolding outcome first_of most narrow on_grid all_on_grid sound_from some_over some_empty
one_byte_short = refl

an_empty_shape : outcome [] [] (to 0) [] ≡ leaving 12 0 []
unfolding outcome first_of most narrow on_grid all_on_grid sound_from some_over some_empty
an_empty_shape = refl

no_shapes : outcome [] (to 0) [] [] ≡ leaving 6 0 []
unfolding outcome first_of most narrow on_grid all_on_grid sound_from some_over some_empty
no_shapes = refl

-- 536,870,912 is on the narrow grid, and 536,870,913 gets 3
at_the_end : outcome (pos 536870912 ∷ negsuc 536870911 ∷ []) (to 1) (to 1) (7 ∷ 7 ∷ 7 ∷ 7 ∷ 7 ∷ 7 ∷ 7 ∷ 7 ∷ 7 ∷ 7 ∷ 7 ∷ 7 ∷ [])
    ≡ leaving 0 12 (16 ∷ 1 ∷ 128 ∷ 1 ∷ 32 ∷ 0 ∷ 0 ∷ 0 ∷ 224 ∷ 0 ∷ 0 ∷ 0 ∷ [])
unfolding outcome first_of most narrow on_grid all_on_grid sound_from some_over some_empty joined fields value field bytes file
at_the_end = refl

off_the_grid : outcome (pos 536870913 ∷ pos 0 ∷ []) (to 1) ((0 ∷ 0 ∷ []) ∷ (0 ∷ 1 ∷ []) ∷ []) [] ≡ leaving 3 0 []
unfolding outcome first_of most narrow on_grid all_on_grid sound_from some_over some_empty
off_the_grid = refl

an_odd_count : outcome (pos 0 ∷ []) [] [] [] ≡ leaving 1 0 []
unfolding outcome first_of most narrow on_grid all_on_grid sound_from some_over some_empty
an_odd_count = refl
