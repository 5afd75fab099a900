-- What the inner functions ask of each other.
use Rattle.std.specs.Prelude.{List, [], ℕ, ◌<◌, ◌≤◌, length, get_or, ℤ}
use Rattle.difference.specs.Lines.{lines_of, written}
use Rattle.difference.specs.inside.Sets.{Sound}

-- a listing whose places are those of points, or one past the last of them
abbrev pub Places : List (List ℕ) → Type 0
Places listing = (i : ℕ) → i < length listing → get_or (get_or listing i []) 1 0 ≤ 65536

-- two sets of so few contours that no call refuses
pub record Comparable (points : List ℤ) (ranges : List (List ℕ)) (others : List ℤ) (other-ranges : List (List ℕ)) : Type 0 where
  pub first : Sound points ranges
  pub second : Sound others other-ranges
  pub first_few : length ranges ≤ 4095
  pub second_few : length other-ranges ≤ 4095
  pub places : Places (written (lines_of points ranges others other-ranges))
