-- The sets that are cleaned.
use Rattle.std.specs.Prelude.{◌≡◌, true, List, ℕ, ◌≤◌, length, ℤ}
use Rattle.grid.specs.Domain.{count, Contour}
use Rattle.buffer.specs.Spans.{spans, sound}
use Rattle.report.specs.Listing.{most_listed}

-- a set that no call refuses, of so few points, contours and shapes that there is room for them
pub record Tidiable (p : List ℤ) (cs ss : List (List ℕ)) : Type 0 where
  pub domain : Contour p (count p)
  pub contours : sound (spans cs) (count p) ≡ true
  pub shapes : sound (spans ss) (length cs) ≡ true
  pub few_points : count p ≤ most_listed
  pub few_contours : length cs ≤ 4095
  pub few_shapes : length ss ≤ 4095
