-- The bits of a contour by its steps: its first point, and its differences in the smallest width that they fit.
use Rattle.std.specs.Prelude.{Bool, List, [], ◌++◌, ℕ, zero, suc, ◌+◌, ◌*◌, take, drop, ℤ}
use Rattle.bits.specs.Signs.{fields, numbers}
use Rattle.bits.specs.Widths.{width_of}
use Rattle.steps.specs.Steps.{differences, from_point}

-- the width of a contour: the smallest, 1 to 32, that all its differences fit, 1 where it has none
abbrev pub contour_width : List ℤ → ℕ
contour_width p = width_of (differences p)

-- its points: the first 32 and 32, then each further one as two differences of that width, two's complement
abbrev pub body : List ℤ → List Bool
body p = fields 32 (take 2 p) ++ fields (contour_width p) (differences p)

-- how many bits n points have in a width
abbrev pub body_size : ℕ → ℕ → ℕ
body_size zero w = 0
body_size (suc k) w = 64 + w * (2 * k)

-- the differences of n points
abbrev pub steps_in : ℕ → ℕ → List Bool → List ℤ
steps_in zero w l = []
steps_in (suc k) w l = numbers w (2 * k) (drop 64 l)

-- n points
abbrev pub points_of_width : ℕ → ℕ → List Bool → List ℤ
points_of_width zero w l = []
points_of_width (suc k) w l = from_point (numbers 32 2 l) (steps_in (suc k) w l)
