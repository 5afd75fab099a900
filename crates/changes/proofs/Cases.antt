-- Worked files, and what is said of them.
use mathlib.Core.Path.{◌≡◌, refl}
use mathlib.Core.List.{[], ◌∷◌}
use Rattle.replies.specs.Ladder.{first_of}
use Rattle.grid.specs.Limits.{narrow, most, on_grid, all_on_grid}
use Rattle.buffer.specs.Sets.{joined}
use Rattle.bits.specs.Bits.{value, field, bits}
use Rattle.bits.specs.Signs.{all_fit, numbers}
use Rattle.bits.specs.Widths.{smallest}
use Rattle.setfile.specs.Layouts.{some_set, contours_in}
use Rattle.setfile.specs.Editions.{parsed}
use Rattle.turned.specs.Search.{first_below, all_below}
use Rattle.turned.specs.Starts.{starts_at}
use Rattle.difference.specs.Lines.{compared, listed}
use Rattle.report.specs.Text.{places, decimal}
use Rattle.changes.specs.Words.{change, line, lines, of_kind, counts, changes}

-- first: refused 10, and the second is not looked at
both_refused : changes [] [] ≡ 102 ∷ 105 ∷ 114 ∷ 115 ∷ 116 ∷ 58 ∷ 32 ∷ 114 ∷ 101 ∷ 102 ∷ 117 ∷ 115 ∷ 101 ∷ 100 ∷ 32 ∷ 49 ∷ 48 ∷ 10 ∷ []
unfolding changes parsed bits field value first_of decimal places
both_refused = refl

-- first: refused 9
first_refused : changes (48 ∷ 0 ∷ []) (16 ∷ 0 ∷ []) ≡ 102 ∷ 105 ∷ 114 ∷ 115 ∷ 116 ∷ 58 ∷ 32 ∷ 114 ∷ 101 ∷ 102 ∷ 117 ∷ 115 ∷ 101 ∷ 100 ∷ 32 ∷ 57 ∷ 10 ∷ []
unfolding changes parsed bits field value first_of decimal places
first_refused = refl

-- second: refused 11
second_refused : changes (16 ∷ 0 ∷ []) (16 ∷ 1 ∷ 0 ∷ 0 ∷ []) ≡ 115 ∷ 101 ∷ 99 ∷ 111 ∷ 110 ∷ 100 ∷ 58 ∷ 32 ∷ 114 ∷ 101 ∷ 102 ∷ 117 ∷ 115 ∷ 101 ∷ 100 ∷ 32 ∷ 49 ∷ 49 ∷ 10 ∷ []
unfolding changes parsed bits field value first_of decimal places contours_in numbers some_set lines of_kind counts listed all_on_grid joined
second_refused = refl

-- no contours, and nothing but the counts
none : changes (16 ∷ 0 ∷ []) (16 ∷ 0 ∷ []) ≡ 116 ∷ 104 ∷ 101 ∷ 32 ∷ 115 ∷ 97 ∷ 109 ∷ 101 ∷ 58 ∷ 32 ∷ 48 ∷ 44 ∷ 32 ∷ 115 ∷ 116 ∷ 97 ∷ 114 ∷ 116 ∷ 101 ∷ 100 ∷ 32 ∷ 101 ∷ 108 ∷ 115 ∷ 101 ∷ 119 ∷ 104 ∷ 101 ∷ 114 ∷ 101 ∷ 58 ∷ 32 ∷ 48 ∷ 44 ∷ 32 ∷ 100 ∷ 105 ∷ 102 ∷ 102 ∷ 101 ∷ 114 ∷ 101 ∷ 110 ∷ 116 ∷ 58 ∷ 32 ∷ 48 ∷ 44 ∷ 32 ∷ 111 ∷ 110 ∷ 108 ∷ 121 ∷ 32 ∷ 105 ∷ 110 ∷ 32 ∷ 116 ∷ 104 ∷ 101 ∷ 32 ∷ 102 ∷ 105 ∷ 114 ∷ 115 ∷ 116 ∷ 58 ∷ 32 ∷ 48 ∷ 44 ∷ 32 ∷ 111 ∷ 110 ∷ 108 ∷ 121 ∷ 32 ∷ 105 ∷ 110 ∷ 32 ∷ 116 ∷ 104 ∷ 101 ∷ 32 ∷ 115 ∷ 101 ∷ 99 ∷ 111 ∷ 110 ∷ 100 ∷ 58 ∷ 32 ∷ 48 ∷ 10 ∷ []
unfolding changes parsed bits field value first_of decimal places contours_in numbers some_set lines of_kind counts listed all_on_grid joined
none = refl

-- nothing is said of an empty contour that is the same
same : changes (16 ∷ 1 ∷ 128 ∷ 0 ∷ []) (16 ∷ 1 ∷ 128 ∷ 0 ∷ []) ≡ 116 ∷ 104 ∷ 101 ∷ 32 ∷ 115 ∷ 97 ∷ 109 ∷ 101 ∷ 58 ∷ 32 ∷ 49 ∷ 44 ∷ 32 ∷ 115 ∷ 116 ∷ 97 ∷ 114 ∷ 116 ∷ 101 ∷ 100 ∷ 32 ∷ 101 ∷ 108 ∷ 115 ∷ 101 ∷ 119 ∷ 104 ∷ 101 ∷ 114 ∷ 101 ∷ 58 ∷ 32 ∷ 48 ∷ 44 ∷ 32 ∷ 100 ∷ 105 ∷ 102 ∷ 102 ∷ 101 ∷ 114 ∷ 101 ∷ 110 ∷ 116 ∷ 58 ∷ 32 ∷ 48 ∷ 44 ∷ 32 ∷ 111 ∷ 110 ∷ 108 ∷ 121 ∷ 32 ∷ 105 ∷ 110 ∷ 32 ∷ 116 ∷ 104 ∷ 101 ∷ 32 ∷ 102 ∷ 105 ∷ 114 ∷ 115 ∷ 116 ∷ 58 ∷ 32 ∷ 48 ∷ 44 ∷ 32 ∷ 111 ∷ 110 ∷ 108 ∷ 121 ∷ 32 ∷ 105 ∷ 110 ∷ 32 ∷ 116 ∷ 104 ∷ 101 ∷ 32 ∷ 115 ∷ 101 ∷ 99 ∷ 111 ∷ 110 ∷ 100 ∷ 58 ∷ 32 ∷ 48 ∷ 10 ∷ []
unfolding changes parsed bits field value first_of decimal places contours_in numbers some_set lines of_kind counts listed all_on_grid joined line change compared starts_at first_below all_below narrow on_grid
same = refl

-- contour 1 starts elsewhere: its first point is point 2 of the second
elsewhere : changes (16 ∷ 1 ∷ 128 ∷ 2 ∷ 0 ∷ 0 ∷ 0 ∷ 0 ∷ 0 ∷ 0 ∷ 0 ∷ 0 ∷ 0 ∷ 0 ∷ 0 ∷ 4 ∷ 0 ∷ 0 ∷ 0 ∷ 0 ∷ []) (16 ∷ 1 ∷ 128 ∷ 2 ∷ 0 ∷ 0 ∷ 0 ∷ 4 ∷ 0 ∷ 0 ∷ 0 ∷ 0 ∷ 0 ∷ 0 ∷ 0 ∷ 0 ∷ 0 ∷ 0 ∷ 0 ∷ 0 ∷ []) ≡ 99 ∷ 111 ∷ 110 ∷ 116 ∷ 111 ∷ 117 ∷ 114 ∷ 32 ∷ 49 ∷ 32 ∷ 115 ∷ 116 ∷ 97 ∷ 114 ∷ 116 ∷ 115 ∷ 32 ∷ 101 ∷ 108 ∷ 115 ∷ 101 ∷ 119 ∷ 104 ∷ 101 ∷ 114 ∷ 101 ∷ 58 ∷ 32 ∷ 105 ∷ 116 ∷ 115 ∷ 32 ∷ 102 ∷ 105 ∷ 114 ∷ 115 ∷ 116 ∷ 32 ∷ 112 ∷ 111 ∷ 105 ∷ 110 ∷ 116 ∷ 32 ∷ 105 ∷ 115 ∷ 32 ∷ 112 ∷ 111 ∷ 105 ∷ 110 ∷ 116 ∷ 32 ∷ 50 ∷ 32 ∷ 111 ∷ 102 ∷ 32 ∷ 116 ∷ 104 ∷ 101 ∷ 32 ∷ 115 ∷ 101 ∷ 99 ∷ 111 ∷ 110 ∷ 100 ∷ 10 ∷ 116 ∷ 104 ∷ 101 ∷ 32 ∷ 115 ∷ 97 ∷ 109 ∷ 101 ∷ 58 ∷ 32 ∷ 48 ∷ 44 ∷ 32 ∷ 115 ∷ 116 ∷ 97 ∷ 114 ∷ 116 ∷ 101 ∷ 100 ∷ 32 ∷ 101 ∷ 108 ∷ 115 ∷ 101 ∷ 119 ∷ 104 ∷ 101 ∷ 114 ∷ 101 ∷ 58 ∷ 32 ∷ 49 ∷ 44 ∷ 32 ∷ 100 ∷ 105 ∷ 102 ∷ 102 ∷ 101 ∷ 114 ∷ 101 ∷ 110 ∷ 116 ∷ 58 ∷ 32 ∷ 48 ∷ 44 ∷ 32 ∷ 111 ∷ 110 ∷ 108 ∷ 121 ∷ 32 ∷ 105 ∷ 110 ∷ 32 ∷ 116 ∷ 104 ∷ 101 ∷ 32 ∷ 102 ∷ 105 ∷ 114 ∷ 115 ∷ 116 ∷ 58 ∷ 32 ∷ 48 ∷ 44 ∷ 32 ∷ 111 ∷ 110 ∷ 108 ∷ 121 ∷ 32 ∷ 105 ∷ 110 ∷ 32 ∷ 116 ∷ 104 ∷ 101 ∷ 32 ∷ 115 ∷ 101 ∷ 99 ∷ 111 ∷ 110 ∷ 100 ∷ 58 ∷ 32 ∷ 48 ∷ 10 ∷ []
unfolding changes parsed bits field value first_of decimal places contours_in numbers some_set lines of_kind counts listed all_on_grid joined line change compared starts_at first_below all_below narrow on_grid
elsewhere = refl

-- contour 2 differs from point 2 on
different : changes (16 ∷ 2 ∷ 128 ∷ 0 ∷ 128 ∷ 1 ∷ 0 ∷ 0 ∷ 0 ∷ 0 ∷ 0 ∷ 0 ∷ 0 ∷ 4 ∷ []) (16 ∷ 2 ∷ 128 ∷ 0 ∷ 128 ∷ 2 ∷ 0 ∷ 0 ∷ 0 ∷ 0 ∷ 0 ∷ 0 ∷ 0 ∷ 4 ∷ 0 ∷ 0 ∷ 0 ∷ 4 ∷ 0 ∷ 0 ∷ 0 ∷ 0 ∷ []) ≡ 99 ∷ 111 ∷ 110 ∷ 116 ∷ 111 ∷ 117 ∷ 114 ∷ 32 ∷ 50 ∷ 32 ∷ 100 ∷ 105 ∷ 102 ∷ 102 ∷ 101 ∷ 114 ∷ 115 ∷ 32 ∷ 102 ∷ 114 ∷ 111 ∷ 109 ∷ 32 ∷ 112 ∷ 111 ∷ 105 ∷ 110 ∷ 116 ∷ 32 ∷ 50 ∷ 32 ∷ 111 ∷ 110 ∷ 10 ∷ 116 ∷ 104 ∷ 101 ∷ 32 ∷ 115 ∷ 97 ∷ 109 ∷ 101 ∷ 58 ∷ 32 ∷ 49 ∷ 44 ∷ 32 ∷ 115 ∷ 116 ∷ 97 ∷ 114 ∷ 116 ∷ 101 ∷ 100 ∷ 32 ∷ 101 ∷ 108 ∷ 115 ∷ 101 ∷ 119 ∷ 104 ∷ 101 ∷ 114 ∷ 101 ∷ 58 ∷ 32 ∷ 48 ∷ 44 ∷ 32 ∷ 100 ∷ 105 ∷ 102 ∷ 102 ∷ 101 ∷ 114 ∷ 101 ∷ 110 ∷ 116 ∷ 58 ∷ 32 ∷ 49 ∷ 44 ∷ 32 ∷ 111 ∷ 110 ∷ 108 ∷ 121 ∷ 32 ∷ 105 ∷ 110 ∷ 32 ∷ 116 ∷ 104 ∷ 101 ∷ 32 ∷ 102 ∷ 105 ∷ 114 ∷ 115 ∷ 116 ∷ 58 ∷ 32 ∷ 48 ∷ 44 ∷ 32 ∷ 111 ∷ 110 ∷ 108 ∷ 121 ∷ 32 ∷ 105 ∷ 110 ∷ 32 ∷ 116 ∷ 104 ∷ 101 ∷ 32 ∷ 115 ∷ 101 ∷ 99 ∷ 111 ∷ 110 ∷ 100 ∷ 58 ∷ 32 ∷ 48 ∷ 10 ∷ []
unfolding changes parsed bits field value first_of decimal places contours_in numbers some_set lines of_kind counts listed all_on_grid joined line change compared starts_at first_below all_below narrow on_grid
different = refl

-- contour 1 is only in the first
only_in_the_first : changes (16 ∷ 1 ∷ 128 ∷ 0 ∷ []) (16 ∷ 0 ∷ []) ≡ 99 ∷ 111 ∷ 110 ∷ 116 ∷ 111 ∷ 117 ∷ 114 ∷ 32 ∷ 49 ∷ 32 ∷ 105 ∷ 115 ∷ 32 ∷ 111 ∷ 110 ∷ 108 ∷ 121 ∷ 32 ∷ 105 ∷ 110 ∷ 32 ∷ 116 ∷ 104 ∷ 101 ∷ 32 ∷ 102 ∷ 105 ∷ 114 ∷ 115 ∷ 116 ∷ 10 ∷ 116 ∷ 104 ∷ 101 ∷ 32 ∷ 115 ∷ 97 ∷ 109 ∷ 101 ∷ 58 ∷ 32 ∷ 48 ∷ 44 ∷ 32 ∷ 115 ∷ 116 ∷ 97 ∷ 114 ∷ 116 ∷ 101 ∷ 100 ∷ 32 ∷ 101 ∷ 108 ∷ 115 ∷ 101 ∷ 119 ∷ 104 ∷ 101 ∷ 114 ∷ 101 ∷ 58 ∷ 32 ∷ 48 ∷ 44 ∷ 32 ∷ 100 ∷ 105 ∷ 102 ∷ 102 ∷ 101 ∷ 114 ∷ 101 ∷ 110 ∷ 116 ∷ 58 ∷ 32 ∷ 48 ∷ 44 ∷ 32 ∷ 111 ∷ 110 ∷ 108 ∷ 121 ∷ 32 ∷ 105 ∷ 110 ∷ 32 ∷ 116 ∷ 104 ∷ 101 ∷ 32 ∷ 102 ∷ 105 ∷ 114 ∷ 115 ∷ 116 ∷ 58 ∷ 32 ∷ 49 ∷ 44 ∷ 32 ∷ 111 ∷ 110 ∷ 108 ∷ 121 ∷ 32 ∷ 105 ∷ 110 ∷ 32 ∷ 116 ∷ 104 ∷ 101 ∷ 32 ∷ 115 ∷ 101 ∷ 99 ∷ 111 ∷ 110 ∷ 100 ∷ 58 ∷ 32 ∷ 48 ∷ 10 ∷ []
unfolding changes parsed bits field value first_of decimal places contours_in numbers some_set lines of_kind counts listed all_on_grid joined line change compared starts_at first_below all_below narrow on_grid
only_in_the_first = refl

-- contour 1 is only in the second, in edition 2
only_in_the_second : changes (16 ∷ 0 ∷ []) (32 ∷ 1 ∷ 128 ∷ 0 ∷ 4 ∷ []) ≡ 99 ∷ 111 ∷ 110 ∷ 116 ∷ 111 ∷ 117 ∷ 114 ∷ 32 ∷ 49 ∷ 32 ∷ 105 ∷ 115 ∷ 32 ∷ 111 ∷ 110 ∷ 108 ∷ 121 ∷ 32 ∷ 105 ∷ 110 ∷ 32 ∷ 116 ∷ 104 ∷ 101 ∷ 32 ∷ 115 ∷ 101 ∷ 99 ∷ 111 ∷ 110 ∷ 100 ∷ 10 ∷ 116 ∷ 104 ∷ 101 ∷ 32 ∷ 115 ∷ 97 ∷ 109 ∷ 101 ∷ 58 ∷ 32 ∷ 48 ∷ 44 ∷ 32 ∷ 115 ∷ 116 ∷ 97 ∷ 114 ∷ 116 ∷ 101 ∷ 100 ∷ 32 ∷ 101 ∷ 108 ∷ 115 ∷ 101 ∷ 119 ∷ 104 ∷ 101 ∷ 114 ∷ 101 ∷ 58 ∷ 32 ∷ 48 ∷ 44 ∷ 32 ∷ 100 ∷ 105 ∷ 102 ∷ 102 ∷ 101 ∷ 114 ∷ 101 ∷ 110 ∷ 116 ∷ 58 ∷ 32 ∷ 48 ∷ 44 ∷ 32 ∷ 111 ∷ 110 ∷ 108 ∷ 121 ∷ 32 ∷ 105 ∷ 110 ∷ 32 ∷ 116 ∷ 104 ∷ 101 ∷ 32 ∷ 102 ∷ 105 ∷ 114 ∷ 115 ∷ 116 ∷ 58 ∷ 32 ∷ 48 ∷ 44 ∷ 32 ∷ 111 ∷ 110 ∷ 108 ∷ 121 ∷ 32 ∷ 105 ∷ 110 ∷ 32 ∷ 116 ∷ 104 ∷ 101 ∷ 32 ∷ 115 ∷ 101 ∷ 99 ∷ 111 ∷ 110 ∷ 100 ∷ 58 ∷ 32 ∷ 49 ∷ 10 ∷ []
unfolding changes parsed bits field value first_of decimal places contours_in numbers some_set lines of_kind counts listed all_on_grid joined line change compared starts_at first_below all_below narrow on_grid most smallest all_fit
only_in_the_second = refl
