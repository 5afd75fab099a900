-- The bounds of the grid.
use Rattle.std.specs.Prelude.{ℕ, Bool, true, ◌&&◌, List, [], ◌∷◌, ℤ, pos, neg_ℤ, int_le}

-- the largest coordinate, either side of 0
unfoldable pub limit : ℕ
limit = 1073741823

-- the largest of a file of edition 1 and of a drawing in millimetres, which lie on the narrow grid
unfoldable pub narrow : ℕ
narrow = 536870912

-- the most points of a contour or a set
unfoldable pub most : ℕ
most = 65536

-- a coordinate within a bound, either side of 0
unfoldable pub on_grid : ℕ → ℤ → Bool
on_grid bound z = int_le (neg_ℤ (pos bound)) z && int_le z (pos bound)

-- every number of a row is such a coordinate
unfoldable pub all_on_grid : ℕ → List ℤ → Bool
all_on_grid bound [] = true
all_on_grid bound (z ∷ row) = on_grid bound z && all_on_grid bound row
