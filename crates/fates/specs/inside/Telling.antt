-- What is asked where fates are told.
use Rattle.std.specs.Prelude.{◌≡◌, true, List, ℕ, length, ℤ}
use Rattle.grid.specs.Domain.{count, Contour}
use Rattle.buffer.specs.Spans.{spans, sound}
use Rattle.sets.specs.inside.Contour.{Scratch}
use Rattle.sets.specs.inside.Shape.{Named}

-- a contour of the domain, with scratch
pub record Walkable (c : List ℤ) (next prev mark : List ℕ) : Type 0 where
  pub contour : Contour c (count c)
  pub scratch : Scratch (count c) next prev mark

-- ranges that name contours, with scratch for all points, and an entry for each
pub record Tellable (p : List ℤ) (ranges : List (List ℕ)) (next prev mark fates : List ℕ) : Type 0 where
  pub named : Named p ranges
  pub scratch : Scratch (count p) next prev mark
  pub long : length fates ≡ length ranges

-- and shapes whose ranges are sound
pub record Each (p : List ℤ) (cs ss : List (List ℕ)) (next prev mark fates : List ℕ) : Type 0 where
  pub tellable : Tellable p cs next prev mark fates
  pub sound : sound (spans ss) (length cs) ≡ true
