-- Both sides of the grid's limit, of a point that is asked about; and where points lie to small contours.
use mathlib.Core.Path.{◌≡◌, refl}
use mathlib.Core.Bool.{false, xor}
use mathlib.Core.List.{List, [], ◌∷◌}
use Prim.Native.Nat.{ℕ}
use lib.IntN.{ℤ, pos}
use Rattle.grid.specs.Limits.{limit, most, on_grid, all_on_grid}
use Rattle.grid.specs.Points.{points}
use Rattle.grid.specs.Edges.{cross}
use Rattle.grid.specs.Corners.{last}
use Rattle.replies.specs.Ladder.{first_of}
use Rattle.grid.specs.Cases.{row, W1, W2, W9, W10}
use Rattle.path.specs.Contains.{crosses, odd, contained, contains}
use Rattle.path.specs.Locate.{on_edge, touched, on_boundary, location, located}

-- 1,073,741,823 may be asked about, 1,073,741,824 may not
w1_asked : (contains W1 (pos 1073741823) (pos 0) ≡ record { reply = 0; yes = false }) × (contains W1 (pos 1073741824) (pos 0) ≡ record { reply = 3; yes = false })
unfolding limit most on_grid all_on_grid first_of points contained contains
w1_asked = (refl, refl)

w1_located : (located W1 (pos 0) (pos 1073741823) ≡ record { reply = 0; place = 0 }) × (located W1 (pos 0) (pos 1073741824) ≡ record { reply = 3; place = 0 })
unfolding limit most on_grid all_on_grid first_of points contained on_boundary location located
w1_located = (refl, refl)

-- what is answered of these points
abbrev answers : List ℤ → List (ℕ × ℕ) → List ℕ
answers r [] = []
answers r (q ∷ asked) = (located r (pos q.0) (pos q.1)).place ∷ answers r asked

-- a square: all its sides alike, the closing one included; its corners; its middle; on the line of a side, but beyond it
square_located :
    (answers W9 ((0, 2) ∷ (2, 0) ∷ (4, 2) ∷ (2, 4) ∷ []) ≡ 1 ∷ 1 ∷ 1 ∷ 1 ∷ [])
    × (answers W9 ((0, 0) ∷ (4, 0) ∷ (4, 4) ∷ (0, 4) ∷ []) ≡ 1 ∷ 1 ∷ 1 ∷ 1 ∷ [])
    × (answers W9 ((2, 2) ∷ (1, 3) ∷ (5, 2) ∷ (5, 0) ∷ (5, 4) ∷ (0, 5) ∷ []) ≡ 2 ∷ 2 ∷ 0 ∷ 0 ∷ 0 ∷ 0 ∷ [])
unfolding xor limit most on_grid all_on_grid first_of points cross last crosses odd contained on_edge touched on_boundary location located
square_located = (refl, refl, refl)

-- where the edges of a bow tie cross, and on either side; a level line there and back; one point; one point, said twice
others_located :
    (answers W10 ((2, 2) ∷ (3, 2) ∷ (2, 1) ∷ []) ≡ 1 ∷ 2 ∷ 0 ∷ [])
    × (answers W2 ((0, 0) ∷ (1, 0) ∷ (2, 0) ∷ (3, 0) ∷ (1, 1) ∷ []) ≡ 1 ∷ 1 ∷ 1 ∷ 0 ∷ 0 ∷ [])
    × (answers (row (3 ∷ 4 ∷ [])) ((3, 4) ∷ (3, 5) ∷ (2, 4) ∷ []) ≡ 1 ∷ 0 ∷ 0 ∷ [])
    × (answers (row (3 ∷ 4 ∷ 3 ∷ 4 ∷ [])) ((3, 4) ∷ (4, 4) ∷ []) ≡ 1 ∷ 0 ∷ [])
unfolding xor limit most on_grid all_on_grid first_of points cross last crosses odd contained on_edge touched on_boundary location located
others_located = (refl, refl, refl, refl)
