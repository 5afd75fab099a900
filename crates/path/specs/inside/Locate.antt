-- Which edges may have a point, and what is known up to one.
use Rattle.std.specs.Prelude.{◌≡◌, Bool, true, false, List, ℕ, ◌<◌, ◌≤◌, drop, ℤ, pos, ◌-ℤ◌}
use Rattle.std.specs.Bool.{xor}
use Rattle.grid.specs.declared.Point.{Point}
use Rattle.grid.specs.Points.{at, points}
use Rattle.path.specs.Contains.{above, odd, contained}
use Rattle.path.specs.Locate.{touched, on_boundary}

-- the point next under p: what does not lie above its horizontal lies below p's
abbrev pub under : Point → Point
under p = record { x = p.x; y = p.y -ℤ pos 1 }

-- no edge up to position a has p, their parity is known, and the edge from a to i, if i is a position of the n, has not both ends above p's horizontal
pub record Untouched (row : List ℤ) (n : ℕ) (p : Point) (sofar : Bool) (a i : ℕ) : Type 0 where
  pub a_in : a < n
  pub within : i ≤ n
  pub not_above : i < n → above p (at row i) ≡ true → above p (at row a) ≡ false
  pub boundary : on_boundary p (points row) ≡ touched p (at row a) (drop i (points row))
  pub is : contained p (points row) ≡ xor sofar (odd p (at row a) (drop i (points row)))
