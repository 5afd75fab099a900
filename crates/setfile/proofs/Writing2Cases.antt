-- Sets that are written in edition 2, and sets that are refused.
use Rattle.std.proofs.Common.{◌≡◌, ℕ, ◌%◌, true, not, List, [], ◌∷◌, length, ℤ, pos, negsuc, refl, ap, arith, le-ltb, ne_eqb}
use Rattle.grid.specs.Limits.{limit, most, on_grid, all_on_grid}
use Rattle.grid.specs.Domain.{count}
use Rattle.replies.specs.Ladder.{first_of}
use Rattle.replies.proofs.LadderLaws.{first_is}
use Rattle.replies.proofs.LadderLaws.First.{here, past}
use Rattle.buffer.specs.Spans.{sound_from}
use Rattle.buffer.specs.Sets.{joined}
use Rattle.bits.specs.Bits.{value, field, bytes}
use Rattle.bits.specs.Signs.{all_fit, fields}
use Rattle.bits.specs.Widths.{smallest}
use Rattle.steps.specs.Steps.{steps}
use Rattle.setfile.specs.Writing.{some_over, some_empty, leaving}
use Rattle.setfile.specs.Writing2.{outcome}
use Rattle.setfile.proofs.Outcome2Laws.{write_refused}

-- one record, from 0 on
abbrev to : ℕ → List (List ℕ)
to n = (0 ∷ n ∷ []) ∷ []

nothing : outcome [] [] [] (7 ∷ 7 ∷ 7 ∷ []) ≡ leaving 0 2 (32 ∷ 0 ∷ 7 ∷ [])
unfolding outcome first_of most limit on_grid all_on_grid sound_from some_over some_empty joined fields value field bytes
nothing = refl

-- an empty contour has the width 1: its header is a set bit, 15 clear ones and 000001, and two bits fill the last byte
an_empty_contour : outcome [] (to 0) (to 1) (7 ∷ 7 ∷ 7 ∷ 7 ∷ 7 ∷ 7 ∷ []) ≡ leaving 0 5 (32 ∷ 1 ∷ 128 ∷ 0 ∷ 4 ∷ 7 ∷ [])
unfolding outcome first_of most limit on_grid all_on_grid sound_from some_over some_empty joined fields value field bytes smallest all_fit steps
an_empty_contour = refl

one_byte_short : outcome [] (to 0) (to 1) (7 ∷ 7 ∷ 7 ∷ 7 ∷ []) ≡ leaving 5 0 (7 ∷ 7 ∷ 7 ∷ 7 ∷ [])
unfolding outcome first_of most limit on_grid all_on_grid sound_from some_over some_empty joined fields value field bytes smallest all_fit steps
one_byte_short = refl

-- two of one shape: the second header starts behind the 22 bits of the first
a_hole : outcome [] ((0 ∷ 0 ∷ []) ∷ (0 ∷ 0 ∷ []) ∷ []) (to 2) (7 ∷ 7 ∷ 7 ∷ 7 ∷ 7 ∷ 7 ∷ 7 ∷ 7 ∷ []) ≡ leaving 0 8 (32 ∷ 2 ∷ 128 ∷ 0 ∷ 4 ∷ 0 ∷ 0 ∷ 16 ∷ [])
unfolding outcome first_of most limit on_grid all_on_grid sound_from some_over some_empty joined fields value field bytes smallest all_fit steps
a_hole = refl

-- a square of steps of 1 and -1: its width is 2
a_square : outcome (pos 0 ∷ pos 0 ∷ pos 1 ∷ pos 0 ∷ pos 1 ∷ pos 1 ∷ pos 0 ∷ pos 1 ∷ []) (to 4) (to 1) (7 ∷ 7 ∷ 7 ∷ 7 ∷ 7 ∷ 7 ∷ 7 ∷ 7 ∷ 7 ∷ 7 ∷ 7 ∷ 7 ∷ 7 ∷ 7 ∷ 7 ∷ [])
    ≡ leaving 0 15 (32 ∷ 1 ∷ 128 ∷ 4 ∷ 8 ∷ 0 ∷ 0 ∷ 0 ∷ 0 ∷ 0 ∷ 0 ∷ 0 ∷ 1 ∷ 7 ∷ 0 ∷ [])
unfolding outcome first_of most limit on_grid all_on_grid sound_from some_over some_empty joined fields value field bytes smallest all_fit steps
a_square = refl

-- coordinates go to those of the wider grid: 1,073,741,823 is on it, and 1,073,741,824 gets 3, before 12 for the empty shape
at_the_end : outcome (pos 1073741823 ∷ negsuc 1073741822 ∷ []) (to 1) (to 1) (7 ∷ 7 ∷ 7 ∷ 7 ∷ 7 ∷ 7 ∷ 7 ∷ 7 ∷ 7 ∷ 7 ∷ 7 ∷ 7 ∷ 7 ∷ [])
    ≡ leaving 0 13 (32 ∷ 1 ∷ 128 ∷ 1 ∷ 4 ∷ 255 ∷ 255 ∷ 255 ∷ 255 ∷ 0 ∷ 0 ∷ 0 ∷ 4 ∷ [])
unfolding outcome first_of most limit on_grid all_on_grid sound_from some_over some_empty joined fields value field bytes smallest all_fit steps
at_the_end = refl

off_the_grid : outcome (pos 1073741824 ∷ pos 0 ∷ []) (to 1) ((0 ∷ 0 ∷ []) ∷ (0 ∷ 1 ∷ []) ∷ []) [] ≡ leaving 3 0 []
unfolding outcome first_of most limit on_grid all_on_grid sound_from some_over some_empty
off_the_grid = refl

an_empty_shape : outcome [] [] (to 0) [] ≡ leaving 12 0 []
unfolding outcome first_of most limit on_grid all_on_grid sound_from some_over some_empty
an_empty_shape = refl

no_shapes : outcome [] (to 0) [] [] ≡ leaving 6 0 []
unfolding outcome first_of most limit on_grid all_on_grid sound_from some_over some_empty
no_shapes = refl

an_odd_count : outcome (pos 0 ∷ []) [] [] [] ≡ leaving 1 0 []
unfolding outcome first_of most limit on_grid all_on_grid sound_from some_over some_empty
an_odd_count = refl

-- a contour of 32,768 points gets 12, and not 2, wherever they lie
one_point_too_many : (p : List ℤ) → length p ≡ 65536 → all_on_grid limit p ≡ true → (row : List ℕ) → leaving 12 0 row ≡ outcome p (to 32768) (to 1) row
unfolding most sound_from some_over
one_point_too_many p e on row =
    let n : count p ≡ 32768 = omega arith in
    write_refused p (to 32768) (to 1) row 12
    (first_is _ 12
    (past (ne_eqb (length p % 2) 1 (λ z. omega arith))
    (past (le-ltb most (count p) (omega arith))
    (past (rw n)
    (past (ap not on)
    (here refl))))))
    (λ z. omega arith)
