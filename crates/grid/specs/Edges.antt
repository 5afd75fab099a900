-- Edges, and how the way goes on from one to the next: all is said by their cross and their dot.
use Rattle.std.specs.Prelude.{zero, suc, Bool, ◌&&◌, ℤ, pos, negsuc, ◌+ℤ◌, ◌-ℤ◌, ◌*ℤ◌, int_lt}
use Rattle.integers.specs.Equal.{eq_z}
use Rattle.grid.specs.declared.Point.{Point}
use Rattle.grid.specs.declared.Edge.{Edge}

-- the edge from a to b
abbrev pub between : Point → Point → Edge
between a b = record { dx = b.x -ℤ a.x; dy = b.y -ℤ a.y }

-- the edge from 0, 0 to a
abbrev pub from_origin : Point → Edge
from_origin a = record { dx = a.x; dy = a.y }

-- it leads from a point to the same point
abbrev pub still : Edge → Bool
still u = eq_z u.dx (pos 0) && eq_z u.dy (pos 0)

-- ux·vy - uy·vx
unfoldable pub cross : Edge → Edge → ℤ
cross u v = u.dx *ℤ v.dy -ℤ u.dy *ℤ v.dx

-- ux·vx + uy·vy
unfoldable pub dot : Edge → Edge → ℤ
dot u v = u.dx *ℤ v.dx +ℤ u.dy *ℤ v.dy

-- -1, 0 or 1, as an integer is below, at or above 0
abbrev pub sign : ℤ → ℤ
sign (pos zero) = pos 0
sign (pos (suc n)) = pos 1
sign (negsuc n) = negsuc 0

-- how the way turns: 1 left, 0 straight on or back, -1 right
abbrev pub turn : Edge → Edge → ℤ
turn u v = sign (cross u v)

-- it turns left
abbrev pub turns_left : Edge → Edge → Bool
turns_left u v = int_lt (pos 0) (cross u v)

-- cross 0: the way goes straight on or back, or one of the two is still
abbrev pub aligned : Edge → Edge → Bool
aligned u v = eq_z (cross u v) (pos 0)

-- dot below 0
abbrev pub backward : Edge → Edge → Bool
backward u v = int_lt (dot u v) (pos 0)

-- cross 0 with dot below 0: the way goes back
abbrev pub reverses : Edge → Edge → Bool
reverses u v = aligned u v && backward u v
