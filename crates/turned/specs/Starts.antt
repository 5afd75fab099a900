-- Contours of n points, each read from some start on and around.
use Rattle.std.specs.Prelude.{Bool, List, ◌++◌, ℕ, ◌+◌, ◌*◌, ◌%◌, take, drop, ℤ}
use Rattle.grid.specs.Points.{at, same}
use Rattle.turned.specs.Search.{first_below, all_below}

-- the second contour, read from its position s on and around, is the first
unfoldable pub starts_at : List ℤ → List ℤ → ℕ → ℕ → Bool
starts_at first second n s = all_below (λ i. same (at second ((s + i) % n)) (at first i)) n

-- the smallest such start; n where there is none
abbrev pub smallest_start : List ℤ → List ℤ → ℕ → ℕ
smallest_start first second n = first_below (starts_at first second n) n

-- a contour that starts at its position s; where there is none, at its first
abbrev pub started_at : ℕ → List ℤ → List ℤ
started_at s row = drop (2 * s) row ++ take (2 * s) row
