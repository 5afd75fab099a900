-- Worked files of both editions, and what the program writes for them.
use mathlib.Core.Path.{◌≡◌, refl}
use mathlib.Core.List.{[], ◌∷◌, ◌++◌}
use lib.IntN.ℤ.{negsuc}
use Rattle.ring.specs.Walk.{survivors_from, others, successor, predecessor, occurrences, unmark, unmark_about, remove, decide, look, looks, walk}
use Rattle.ring.specs.Rule.{goes_at}
use Rattle.replies.specs.Ladder.{first_of}
use Rattle.grid.specs.Limits.{limit, narrow, most, on_grid, all_on_grid}
use Rattle.grid.specs.Points.{points}
use Rattle.grid.specs.Edges.{cross, dot}
use Rattle.grid.specs.Area.{around, exact, wrapped}
use Rattle.integers.specs.Modulo.{mod64}
use Rattle.buffer.specs.Sets.{joined}
use Rattle.bits.specs.Bits.{value, field, bits}
use Rattle.bits.specs.Signs.{all_fit, numbers}
use Rattle.bits.specs.Widths.{smallest}
use Rattle.steps.specs.Steps.{sums}
use Rattle.setfile.specs.Layouts.{some_set, contours_in}
use Rattle.setfile.specs.Editions.{parsed}
use Rattle.report.specs.Text.{places, decimal, heading, signed}
use Rattle.report.specs.Listing.{line, lines, listing}

three : decimal 120 ≡ 49 ∷ 50 ∷ 48 ∷ []
unfolding decimal places
three = refl

below : signed (negsuc 41) ≡ 45 ∷ 52 ∷ 50 ∷ []
unfolding decimal places
below = refl

refused_10 : listing [] ≡ 114 ∷ 101 ∷ 102 ∷ 117 ∷ 115 ∷ 101 ∷ 100 ∷ 32 ∷ 49 ∷ 48 ∷ 10 ∷ []
unfolding listing parsed bits field value first_of decimal places
refused_10 = refl

-- in hex 2001 8000 08: the width of an empty contour is 2
refused_15 : listing (32 ∷ 1 ∷ 128 ∷ 0 ∷ 8 ∷ []) ≡ 114 ∷ 101 ∷ 102 ∷ 117 ∷ 115 ∷ 101 ∷ 100 ∷ 32 ∷ 49 ∷ 53 ∷ 10 ∷ []
unfolding listing parsed bits field value first_of decimal places contours_in numbers some_set most smallest all_fit lines all_on_grid joined
refused_15 = refl

-- in hex 2001 8000 05: it is 1, and the last fill bit is set
refused_16 : listing (32 ∷ 1 ∷ 128 ∷ 0 ∷ 5 ∷ []) ≡ 114 ∷ 101 ∷ 102 ∷ 117 ∷ 115 ∷ 101 ∷ 100 ∷ 32 ∷ 49 ∷ 54 ∷ 10 ∷ []
unfolding listing parsed bits field value first_of decimal places contours_in numbers some_set most smallest all_fit lines all_on_grid joined
refused_16 = refl

none : listing (16 ∷ 0 ∷ []) ≡ heading
unfolding listing parsed bits field value first_of decimal places contours_in numbers some_set lines all_on_grid joined
none = refl

-- the file of 01: a square with a point in a straight edge
w4 : listing (16 ∷ 1 ∷ 128 ∷ 5 ∷ 0 ∷ 0 ∷ 0 ∷ 0 ∷ 0 ∷ 0 ∷ 0 ∷ 0 ∷ 0 ∷ 0 ∷ 0 ∷ 2 ∷ 0 ∷ 0 ∷ 0 ∷ 0 ∷ 0 ∷ 0 ∷ 0 ∷ 4 ∷ 0 ∷ 0 ∷ 0 ∷ 0 ∷ 0 ∷ 0 ∷ 0 ∷ 4 ∷ 0 ∷ 0 ∷ 0 ∷ 4 ∷ 0 ∷ 0 ∷ 0 ∷ 0 ∷ 0 ∷ 0 ∷ 0 ∷ 4 ∷ [])
    ≡ heading ++ 49 ∷ 32 ∷ 53 ∷ 32 ∷ 52 ∷ 32 ∷ 54 ∷ 32 ∷ 51 ∷ 50 ∷ 10 ∷ []
unfolding listing parsed bits field value first_of decimal places contours_in numbers some_set lines line narrow on_grid all_on_grid joined
    survivors_from others successor predecessor occurrences unmark unmark_about remove decide look looks walk goes_at cross dot points around exact wrapped mod64
w4 = refl

-- the same square in edition 2 keeps that point
straight_on : listing (32 ∷ 1 ∷ 128 ∷ 5 ∷ 16 ∷ 0 ∷ 0 ∷ 0 ∷ 0 ∷ 0 ∷ 0 ∷ 0 ∷ 0 ∷ 128 ∷ 128 ∷ 19 ∷ 0 ∷ []) ≡ heading ++ 49 ∷ 32 ∷ 53 ∷ 32 ∷ 53 ∷ 32 ∷ 53 ∷ 32 ∷ 51 ∷ 50 ∷ 10 ∷ []
unfolding listing parsed bits field value first_of decimal places contours_in numbers some_set most smallest all_fit sums lines line limit on_grid all_on_grid joined
    survivors_from others successor predecessor occurrences unmark unmark_about remove decide look looks walk goes_at cross dot points around exact wrapped mod64
straight_on = refl

-- with that point beyond the corner, at (6, 0), it is a spike, and goes
spike : listing (32 ∷ 1 ∷ 128 ∷ 5 ∷ 16 ∷ 0 ∷ 0 ∷ 0 ∷ 0 ∷ 0 ∷ 0 ∷ 0 ∷ 1 ∷ 131 ∷ 128 ∷ 19 ∷ 0 ∷ []) ≡ heading ++ 49 ∷ 32 ∷ 53 ∷ 32 ∷ 52 ∷ 32 ∷ 54 ∷ 32 ∷ 51 ∷ 50 ∷ 10 ∷ []
unfolding listing parsed bits field value first_of decimal places contours_in numbers some_set most smallest all_fit sums lines line limit on_grid all_on_grid joined
    survivors_from others successor predecessor occurrences unmark unmark_about remove decide look looks walk goes_at cross dot points around exact wrapped mod64
spike = refl
