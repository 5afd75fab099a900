-- Starts, worked out.
use mathlib.Core.Path.{◌≡◌, refl}
use mathlib.Core.List.{[], ◌∷◌}
use Rattle.grid.specs.Cases.{row, W3, W9}
use Rattle.turned.specs.Search.{first_below, all_below}
use Rattle.turned.specs.Starts.{starts_at, smallest_start, started_at}

-- the triangle W3 from its second point on: it is W3 from that one's third
started_later : started_at 1 W3 ≡ row (4 ∷ 0 ∷ 0 ∷ 4 ∷ 0 ∷ 0 ∷ [])
started_later = refl

found_again : smallest_start W3 (started_at 1 W3) 3 ≡ 2
unfolding starts_at first_below all_below
found_again = refl

-- the other way round it is W3 from no point on
reversed : smallest_start W3 (row (0 ∷ 0 ∷ 0 ∷ 4 ∷ 4 ∷ 0 ∷ [])) 3 ≡ 3
unfolding starts_at first_below all_below
reversed = refl

-- a contour that repeats, there and back twice: of the starts 1 and 3 the smallest
there_and_back : smallest_start (row (0 ∷ 0 ∷ 4 ∷ 0 ∷ 0 ∷ 0 ∷ 4 ∷ 0 ∷ [])) (row (4 ∷ 0 ∷ 0 ∷ 0 ∷ 4 ∷ 0 ∷ 0 ∷ 0 ∷ [])) 4 ≡ 1
unfolding starts_at first_below all_below
there_and_back = refl

-- equal contours: the start 0
unmoved : smallest_start W9 W9 4 ≡ 0
unfolding starts_at first_below all_below
unmoved = refl
