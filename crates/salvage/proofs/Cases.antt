-- Worked files.
use mathlib.Core.Path.{◌≡◌, refl}
use mathlib.Core.List.{List, [], ◌∷◌}
use Prim.Native.Nat.{ℕ}
use Rattle.replies.specs.Ladder.{first_of}
use Rattle.grid.specs.Limits.{narrow, on_grid, all_on_grid}
use Rattle.rows.specs.Rows.{front}
use Rattle.buffer.specs.Sets.{joined}
use Rattle.bits.specs.Bits.{value, field, bits, bytes}
use Rattle.bits.specs.Signs.{fields, numbers}
use Rattle.setfile.specs.Format.{file, complete}
use Rattle.salvage.specs.Fates.{reason, fates, kept, dropped}
use Rattle.salvage.specs.Outcome.{leaving, salvaged, outcome}

-- rows with room for a small file
abbrev out : List ℕ
out = 7 ∷ 7 ∷ 7 ∷ 7 ∷ 7 ∷ 7 ∷ 7 ∷ 7 ∷ 7 ∷ 7 ∷ 7 ∷ 7 ∷ 7 ∷ 7 ∷ 7 ∷ 7 ∷ 7 ∷ 7 ∷ 7 ∷ 7 ∷ 7 ∷ 7 ∷ 7 ∷ 7 ∷ 7 ∷ 7 ∷ 7 ∷ 7 ∷ 7 ∷ 7 ∷ 7 ∷ 7 ∷ 7 ∷ 7 ∷ []

abbrev list : List (List ℕ)
list = (8 ∷ 9 ∷ []) ∷ (8 ∷ 9 ∷ []) ∷ (8 ∷ 9 ∷ []) ∷ []

-- two contours, of which the second begins no shape: sound
sound : outcome (16 ∷ 2 ∷ 128 ∷ 0 ∷ 0 ∷ 0 ∷ []) out list
    ≡ leaving (salvaged 0 6 0 0 0) (front (16 ∷ 2 ∷ 128 ∷ 0 ∷ 0 ∷ 0 ∷ []) out) list
unfolding outcome file fields complete numbers bits field value bytes first_of reason fates kept dropped narrow on_grid all_on_grid joined
sound = refl

-- the second header is cut off
cut_header : outcome (16 ∷ 2 ∷ 128 ∷ 0 ∷ 0 ∷ []) out list
    ≡ leaving (salvaged 0 4 0 1 0) (front (16 ∷ 1 ∷ 128 ∷ 0 ∷ []) out) list
unfolding outcome file fields complete numbers bits field value bytes first_of reason fates kept dropped narrow on_grid all_on_grid joined
cut_header = refl

-- points are missing: the bytes of an incomplete contour are not past the count
cut_points : outcome (16 ∷ 1 ∷ 128 ∷ 1 ∷ 0 ∷ []) out list
    ≡ leaving (salvaged 0 2 0 1 0) (front (16 ∷ 0 ∷ []) out) list
unfolding outcome file fields complete numbers bits field value bytes first_of reason fates kept dropped narrow on_grid all_on_grid joined
cut_points = refl

-- the first contour begins no shape
no_outline : outcome (16 ∷ 1 ∷ 0 ∷ 0 ∷ []) out list
    ≡ leaving (salvaged 0 2 1 0 0) (front (16 ∷ 0 ∷ []) out) (front ((0 ∷ 11 ∷ []) ∷ []) list)
unfolding outcome file fields complete numbers bits field value bytes first_of reason fates kept dropped narrow on_grid all_on_grid joined
no_outline = refl

-- the outline is off the grid, and its hole goes with it; the next shape is kept
with_its_outline : outcome (16 ∷ 3 ∷ 128 ∷ 1 ∷ 32 ∷ 0 ∷ 0 ∷ 1 ∷ 0 ∷ 0 ∷ 0 ∷ 0 ∷ 0 ∷ 0 ∷ 128 ∷ 0 ∷ []) out list
    ≡ leaving (salvaged 0 4 2 0 0) (front (16 ∷ 1 ∷ 128 ∷ 0 ∷ []) out) (front ((0 ∷ 3 ∷ []) ∷ (1 ∷ 11 ∷ []) ∷ []) list)
unfolding outcome file fields complete numbers bits field value bytes first_of reason fates kept dropped narrow on_grid all_on_grid joined
with_its_outline = refl

-- a hole off the grid goes alone
hole_alone : outcome (16 ∷ 3 ∷ 128 ∷ 0 ∷ 0 ∷ 1 ∷ 32 ∷ 0 ∷ 0 ∷ 1 ∷ 0 ∷ 0 ∷ 0 ∷ 0 ∷ 0 ∷ 0 ∷ []) out list
    ≡ leaving (salvaged 0 6 1 0 0) (front (16 ∷ 2 ∷ 128 ∷ 0 ∷ 0 ∷ 0 ∷ []) out) (front ((1 ∷ 3 ∷ []) ∷ []) list)
unfolding outcome file fields complete numbers bits field value bytes first_of reason fates kept dropped narrow on_grid all_on_grid joined
hole_alone = refl

-- of a hole off the grid, in a shape that is dropped, it is told that it is off the grid
off_grid_first : outcome (16 ∷ 3 ∷ 128 ∷ 1 ∷ 32 ∷ 0 ∷ 0 ∷ 1 ∷ 0 ∷ 0 ∷ 0 ∷ 0 ∷ 0 ∷ 1 ∷ 32 ∷ 0 ∷ 0 ∷ 1 ∷ 0 ∷ 0 ∷ 0 ∷ 0 ∷ 0 ∷ 0 ∷ []) out list
    ≡ leaving (salvaged 0 2 3 0 0) (front (16 ∷ 0 ∷ []) out) (front ((0 ∷ 3 ∷ []) ∷ (1 ∷ 3 ∷ []) ∷ (2 ∷ 11 ∷ []) ∷ []) list)
unfolding outcome file fields complete numbers bits field value bytes first_of reason fates kept dropped narrow on_grid all_on_grid joined
off_grid_first = refl

-- bytes past the count
past_the_count : outcome (16 ∷ 1 ∷ 128 ∷ 0 ∷ 7 ∷ 7 ∷ []) out list
    ≡ leaving (salvaged 0 4 0 0 2) (front (16 ∷ 1 ∷ 128 ∷ 0 ∷ []) out) list
unfolding outcome file fields complete numbers bits field value bytes first_of reason fates kept dropped narrow on_grid all_on_grid joined
past_the_count = refl

-- refused, and both rows as they were: under two bytes, before the edition; another edition; no room for the file, or for its count
one_byte : outcome (32 ∷ []) out list ≡ leaving (salvaged 10 0 0 0 0) out list
unfolding outcome bits field value first_of
one_byte = refl

another_edition : outcome (32 ∷ 0 ∷ []) out list ≡ leaving (salvaged 9 0 0 0 0) out list
unfolding outcome bits field value first_of
another_edition = refl

short_output : outcome (16 ∷ 1 ∷ 128 ∷ 0 ∷ []) (7 ∷ 7 ∷ 7 ∷ []) list ≡ leaving (salvaged 5 0 0 0 0) (7 ∷ 7 ∷ 7 ∷ []) list
unfolding outcome bits field value first_of
short_output = refl

short_list : outcome (16 ∷ 1 ∷ 128 ∷ 0 ∷ []) out [] ≡ leaving (salvaged 5 0 0 0 0) out []
unfolding outcome bits field value first_of
short_list = refl
