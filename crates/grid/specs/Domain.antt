-- What every call asks of a row of coordinates.
use Rattle.std.specs.Prelude.{◌≡◌, ℕ, ◌*◌, ◌/◌, ◌%◌, ◌≤◌, true, not, List, [], ◌∷◌, ◌++◌, length, ℤ, ◌==◌, nat_lt}
use Rattle.grid.specs.Limits.{limit, most, all_on_grid}
use Rattle.replies.specs.Ladder.{Rung}

-- how many points a row has
abbrev pub count : List ℤ → ℕ
count row = length row / 2

-- 1: an odd count of coordinates; 2: over 65,536 points
abbrev pub size : List ℤ → List Rung
size row = ((length row % 2 == 1), 1) ∷ (nat_lt most (count row), 2) ∷ []

-- 3: a coordinate beyond the bound
abbrev pub off : ℕ → List ℤ → List Rung
off bound row = (not (all_on_grid bound row), 3) ∷ []

-- what every call asks of a contour
abbrev pub domain : ℕ → List ℤ → List Rung
domain bound row = size row ++ off bound row

-- a contour of n points in the domain, as the inner functions ask for it
pub record Contour (row : List ℤ) (n : ℕ) : Type 0 where
  pub even : length row ≡ 2 * n
  pub few : n ≤ most
  pub on : all_on_grid limit row ≡ true
