-- Rows and sets that are not refused.
use Rattle.std.specs.Prelude.{◌≡◌, true, List, ℕ, ◌*◌, ◌≤◌, max, length, ℤ}
use Rattle.grid.specs.Limits.{limit, all_on_grid}
use Rattle.grid.specs.Domain.{count, Contour}
use Rattle.buffer.specs.Spans.{spans, sound}

-- a row on the grid with n points or more
pub record Long (row : List ℤ) (n : ℕ) : Type 0 where
  pub on : all_on_grid limit row ≡ true
  pub long : 2 * n ≤ length row

-- a set that no call refuses
pub record Sound (points : List ℤ) (ranges : List (List ℕ)) : Type 0 where
  pub domain : Contour points (count points)
  pub tied : sound (spans ranges) (count points) ≡ true

-- n is the larger contour count, and the listing has room for so many lines
pub record Room (n : ℕ) (ranges others listing : List (List ℕ)) : Type 0 where
  pub larger : n ≡ max (length ranges) (length others)
  pub room : n ≤ length listing
