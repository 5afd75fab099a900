-- Points, one by one and as a row has them.
use Rattle.std.specs.Prelude.{ℕ, ◌+◌, ◌*◌, Bool, ◌&&◌, List, [], ◌∷◌, ℤ, pos, slice_index_or}
use Rattle.integers.specs.Equal.{eq_z}
use Rattle.grid.specs.declared.Point.{Point}
use Rattle.grid.specs.Limits.{on_grid}

-- the point at position i of a row x, y, x, y
abbrev pub at : List ℤ → ℕ → Point
at row i = record { x = slice_index_or row (2 * i) (pos 0); y = slice_index_or row (2 * i + 1) (pos 0) }

-- the point 0, 0, which stands for none
abbrev pub origin : Point
origin = record { x = pos 0; y = pos 0 }

-- the points of a row
unfoldable pub points : List ℤ → List Point
points [] = []
points (x ∷ []) = []
points (x ∷ y ∷ row) = record { x = x; y = y } ∷ points row

-- both coordinates are equal
abbrev pub same : Point → Point → Bool
same a b = eq_z a.x b.x && eq_z a.y b.y

-- both coordinates are within a bound
abbrev pub on : ℕ → Point → Bool
on bound a = on_grid bound a.x && on_grid bound a.y
