-- Which contours are boxes.
use Rattle.std.proofs.Common.{◌≡◌, true, false, [], ◌∷◌, refl}
use Rattle.grid.specs.Boxes.{by_turns, four_by_turns, box}
use Rattle.grid.specs.Cases.{row, W1, W3, W4, W9, W10}

-- a square, the same the other way round, and a box that begins upward
boxes : (box W9 ≡ true) × (box (row (0 ∷ 0 ∷ 0 ∷ 4 ∷ 4 ∷ 4 ∷ 4 ∷ 0 ∷ [])) ≡ true) × (box (row (1 ∷ 2 ∷ 1 ∷ 9 ∷ 3 ∷ 9 ∷ 3 ∷ 2 ∷ [])) ≡ true)
unfolding four_by_turns by_turns
boxes = (refl, refl, refl)

-- not without four points, nor with edges that cross, lean, or lead back the same way
others : (box W1 ≡ false) × (box W3 ≡ false) × (box W4 ≡ false) × (box W10 ≡ false)
    × (box (row (0 ∷ 0 ∷ 4 ∷ 0 ∷ 5 ∷ 4 ∷ 1 ∷ 4 ∷ [])) ≡ false)
    × (box (row (0 ∷ 0 ∷ 4 ∷ 0 ∷ 4 ∷ 0 ∷ 0 ∷ 0 ∷ [])) ≡ false)
    × (box (row (0 ∷ 0 ∷ 4 ∷ 0 ∷ 4 ∷ 4 ∷ 4 ∷ 0 ∷ [])) ≡ false)
unfolding four_by_turns by_turns
others = (refl, refl, refl, refl, refl, refl, refl)
