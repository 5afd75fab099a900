-- What is handed back after a cleaning, and from which row.
use mathlib.Core.Path.{◌≡◌, refl}
use mathlib.Core.List.{[], ◌∷◌, ◌++◌}
use Rattle.grid.specs.Cases.{row, W4, W9}
use Rattle.rows.specs.Parts.{Part, lying}
use Rattle.clean.specs.Part.{kept_part}

-- an output that begins with what is kept of W4, which is W9, in another block than the contours
abbrev out : Part
out = lying (2, 8) (W9 ++ row (9 ∷ 9 ∷ []))

-- a contour that lost nothing is handed back itself, though the output begins with the same numbers
nothing_lost : kept_part (lying (1, 0) W9) out 4 ≡ lying (1, 0) W9
unfolding kept_part
nothing_lost = refl

-- of one that lost points, the part of the output that was written; the empty one where nothing was
points_lost : (kept_part (lying (1, 0) W4) out 4 ≡ lying (2, 8) W9) × (kept_part (lying (1, 0) W4) out 0 ≡ lying (2, 8) [])
unfolding kept_part
points_lost = (refl, refl)

-- more points than the contour has, and more than the output has room for
neither : (kept_part (lying (1, 0) W9) out 5 ≡ lying (1, 0) []) × (kept_part (lying (1, 0) W4) (lying (2, 8) []) 4 ≡ lying (1, 0) [])
unfolding kept_part
neither = (refl, refl)
