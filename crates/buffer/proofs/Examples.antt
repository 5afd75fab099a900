-- Worked examples.
use mathlib.Core.Path.{◌≡◌, refl}
use mathlib.Core.Bool.{true, false}
use mathlib.Core.List.{List, [], ◌∷◌, ◌++◌}
use Prim.Native.Nat.{ℕ}
use lib.IntN.{ℤ}
use Rattle.grid.specs.Limits.{limit, most, on_grid, all_on_grid}
use Rattle.replies.specs.Ladder.{first_of}
use Rattle.grid.specs.Cases.{row}
use Rattle.buffer.specs.Spans.{spans, sound_from, sound, laid}
use Rattle.buffer.specs.Sets.{joined, contours, contour_spans}
use Rattle.rows.specs.Parts.{Part, lying}
use Rattle.buffer.specs.Answers.{packed, leaving, stored}
use Rattle.buffer.specs.Contours as C
use Rattle.buffer.specs.Shapes as S

-- a triangle, a point and an empty contour, and a row of four points
abbrev triangle : List ℤ
triangle = row (0 ∷ 0 ∷ 4 ∷ 0 ∷ 0 ∷ 4 ∷ [])

abbrev point : List ℤ
point = row (1 ∷ 1 ∷ [])

abbrev four : List ℤ
four = triangle ++ point

infixl 70 ◌to◌
-- a range
abbrev ◌to◌ : ℕ → ℕ → List ℕ
◌to◌ a b = a ∷ b ∷ []

-- four points as a triangle, an empty contour and a point
abbrev three : List (List ℕ)
three = 0 to 3 ∷ 3 to 3 ∷ 3 to 4 ∷ []

sound_rows : (sound (spans three) 4 ≡ true) × (sound [] 0 ≡ true) × (sound (spans (0 to 0 ∷ 0 to 0 ∷ [])) 0 ≡ true)
unfolding sound_from
sound_rows = (refl, refl, refl)

-- a gap, an overlap, a range that runs backward, a row too short, too long, started late, and none with points
unsound_rows :
    (sound (spans (0 to 1 ∷ 2 to 4 ∷ [])) 4 ≡ false)
    × (sound (spans (0 to 3 ∷ 2 to 4 ∷ [])) 4 ≡ false)
    × (sound (spans (0 to 3 ∷ 3 to 2 ∷ 2 to 4 ∷ [])) 4 ≡ false)
    × (sound (spans (0 to 3 ∷ [])) 4 ≡ false)
    × (sound (spans (0 to 5 ∷ [])) 4 ≡ false)
    × (sound (spans (1 to 4 ∷ [])) 4 ≡ false)
    × (sound [] 4 ≡ false)
unfolding sound_from
unsound_rows = (refl, refl, refl, refl, refl, refl, refl)

unpacked : contours four (spans three) ≡ triangle ∷ [] ∷ point ∷ []
unpacked = refl

flat : (joined (triangle ∷ [] ∷ point ∷ []) ≡ four) × (contour_spans (triangle ∷ [] ∷ point ∷ []) ≡ spans three)
unfolding joined laid
flat = (refl, refl)

-- the four points as they lie in a block of memory, from its byte 100 on
abbrev lent : Part
lent = lying (7, 100) four

-- points without ranges: all of them are the first contour, and every other call answers 6
loose : (C.first_contour lent [] ≡ lent) × (C.contour_at lent [] 0 ≡ lying (7, 100) []) × (C.points_count four [] ≡ record { reply = 6; count = 0 })
unfolding limit most on_grid all_on_grid first_of sound_from C.first_contour C.contour_at C.points_count
loose = (refl, refl, refl)

-- a contour lies where its first number does, and one that is not there lies, empty, at the front
in_place :
    (C.contour_at lent three 0 ≡ lying (7, 100) triangle)
    × (C.contour_at lent three 1 ≡ lying (7, 124) [])
    × (C.contour_at lent three 2 ≡ lying (7, 124) point)
    × (C.contour_at lent three 3 ≡ lying (7, 100) [])
    × (C.first_contour lent three ≡ lying (7, 100) triangle)
unfolding limit most on_grid all_on_grid first_of sound_from C.first_contour C.contour_at
in_place = (refl, refl, refl, refl, refl)

-- a set with ranges and no points is empty
empty : (C.is_empty [] (0 to 0 ∷ []) ≡ record { reply = 0; yes = true }) × (C.contours_count [] (0 to 0 ∷ []) ≡ record { reply = 0; count = 1 })
unfolding limit most on_grid all_on_grid first_of sound_from C.is_empty C.contours_count
empty = (refl, refl)

-- the contours of shapes by number: the first shape is empty, the third has two contours, and there is no fourth
abbrev grouped : List (List ℕ)
grouped = 0 to 0 ∷ 0 to 1 ∷ 1 to 3 ∷ []

by_number :
    (S.contours_in four three grouped 0 ≡ record { reply = 0; count = 0 })
    × (S.contours_in four three grouped 2 ≡ record { reply = 0; count = 2 })
    × (S.contour_of lent three grouped 1 0 ≡ lying (7, 100) triangle)
    × (S.contour_of lent three grouped 2 1 ≡ lying (7, 124) point)
    × (S.contour_of lent three grouped 2 2 ≡ lying (7, 100) [])
    × (S.contour_of lent three grouped 3 0 ≡ lying (7, 100) [])
unfolding limit most on_grid all_on_grid first_of sound_from S.contours_in S.contour_of
by_number = (refl, refl, refl, refl, refl, refl)

abbrev room : List ℤ
room = row (9 ∷ 9 ∷ 9 ∷ 9 ∷ 9 ∷ 9 ∷ 9 ∷ 9 ∷ 9 ∷ [])

-- a point added to a triangle: the rest of the rows is as it was
added : C.with_one_more triangle (0 to 3 ∷ []) point room (9 to 9 ∷ 9 to 9 ∷ 9 to 9 ∷ [])
    ≡ leaving (packed 0 4 2 0) (four ++ row (9 ∷ [])) (0 to 3 ∷ 3 to 4 ∷ 9 to 9 ∷ []) []
unfolding limit most on_grid all_on_grid first_of sound_from stored
added = refl

-- one record too few
cramped : C.with_one_more triangle (0 to 3 ∷ []) point room (9 to 9 ∷ []) ≡ leaving (packed 5 0 0 0) room (9 to 9 ∷ []) []
unfolding limit most on_grid all_on_grid first_of sound_from stored
cramped = refl

-- a shape of two contours added to a shape set
shape_added : S.with_one_more triangle (0 to 3 ∷ []) (0 to 1 ∷ []) point (0 to 0 ∷ 0 to 1 ∷ []) room (9 to 9 ∷ 9 to 9 ∷ 9 to 9 ∷ []) (9 to 9 ∷ 9 to 9 ∷ 9 to 9 ∷ [])
    ≡ leaving (packed 0 4 3 2) (four ++ row (9 ∷ [])) (0 to 3 ∷ 3 to 3 ∷ 3 to 4 ∷ []) (0 to 1 ∷ 1 to 3 ∷ 9 to 9 ∷ [])
unfolding limit most on_grid all_on_grid first_of sound_from stored
shape_added = refl

-- an odd row is told before unsound ranges, and these before a coordinate off the grid
in_order :
    (C.points_count (row (0 ∷ [])) (1 to 2 ∷ []) ≡ record { reply = 1; count = 0 })
    × (C.points_count (row (1073741824 ∷ 0 ∷ [])) [] ≡ record { reply = 6; count = 0 })
    × (C.points_count (row (1073741824 ∷ 0 ∷ [])) (0 to 1 ∷ []) ≡ record { reply = 3; count = 0 })
unfolding limit most on_grid all_on_grid first_of sound_from C.points_count
in_order = (refl, refl, refl)
