-- What a look over a contour tells.
use Rattle.std.specs.Prelude.{◌≡◌, List, true, ℕ, ◌+◌, ◌-◌, ◌<◌, ◌≤◌, length, drop, ℤ}
use Rattle.grid.specs.Limits.{limit}
use Rattle.grid.specs.declared.Point.{Point}
use Rattle.grid.specs.declared.Edge.{Edge}
use Rattle.grid.specs.Points.{at, on, points}
use Rattle.grid.specs.Edges.{between}
use Rattle.grid.specs.Corners.{differing, distinct_neighbours, corners_from, corners, some, reverses_at}
use Rattle.ring.specs.declared.Rule.{Rule}
use Rattle.ring.specs.Rule.{goes}
use Rattle.ring.specs.inside.Rows.{Standing}
use Rattle.clean.specs.declared.inner.look.Look.{Look}
use Rattle.clean.specs.Verdicts.{passes}

-- on the way round the points that remain without equal neighbours, from the one at position first on: so many are met before position i, the last of them b, to which one edge leads from the one before it, a; some corner is a spike if one from b on is
pub record Onward (row : List ℤ) (n first : ℕ) (to : Edge) (kept i : ℕ) : Type 0 where
  pub a : Point
  pub b : Point
  pub begins : first < n
  pub low : 1 ≤ i
  pub within : i ≤ n
  pub few : kept ≤ i
  pub a_on : on limit a ≡ true
  pub here : b ≡ at row (i - 1)
  pub to_is : to ≡ between a b
  pub counted : length (distinct_neighbours (points row)) ≡ kept + length (differing b (drop i (points row)))
  pub none : some reverses_at (corners (distinct_neighbours (points row))) ≡ some reverses_at (corners_from (at row first) a b (differing b (drop i (points row))))

-- what one look tells: the verdict that goes with the rule, and how many vertices stand from the front
pub record LookedOver (rule : Rule) (row : List ℤ) (n : ℕ) (r : Look) : Type 0 where
  pub verdict : r.passes ≡ passes rule (points row)
  pub standing : Standing (goes rule row) n r.standing
