-- The corners of a closed contour, and the points that make one.
use Rattle.std.specs.Prelude.{ℕ, Bool, true, false, ◌||◌, List, [], ◌∷◌, ℤ, pos, negsuc, slice_index_or}
use Rattle.integers.specs.Equal.{eq_z}
use Rattle.grid.specs.declared.Point.{Point}
use Rattle.grid.specs.declared.Edge.{Edge}
use Rattle.grid.specs.Points.{origin, same}
use Rattle.grid.specs.Edges.{between, cross, turn, aligned, reverses}
use Rattle.grid.specs.Neighbours.{preceding, following}

-- the last point, where a stands before the first
unfoldable pub last : Point → List Point → Point
last a [] = a
last a (b ∷ points) = last b points

-- the points that remain where each equal to the last one kept is skipped, and a was kept before
unfoldable pub differing : Point → List Point → List Point
differing a [] = []
differing a (b ∷ points) = elim (same b a) [ true ↦ differing a points | false ↦ b ∷ differing b points ]

-- a contour without equal neighbours; the last point stands before the first
unfoldable pub distinct_neighbours : List Point → List Point
distinct_neighbours [] = []
distinct_neighbours (o ∷ points) = differing (last o points) (o ∷ points)

-- a vertex, with the point before it and the point after it
pub record Corner : Type 0 where
  pub before : Point
  pub vertex : Point
  pub after : Point

-- the corners at b and at the points that follow; after the last comes o
unfoldable pub corners_from : Point → Point → Point → List Point → List Corner
corners_from o a b [] = record { before = a; vertex = b; after = o } ∷ []
corners_from o a b (c ∷ points) = record { before = a; vertex = b; after = c } ∷ corners_from o b c points

-- every corner of a contour
unfoldable pub corners : List Point → List Corner
corners [] = []
corners (o ∷ points) = corners_from o (last o points) o points

-- whether some corner passes a test
unfoldable pub some : (Corner → Bool) → List Corner → Bool
some t [] = false
some t (k ∷ rest) = t k || some t rest

-- the edges to a corner's vertex and from it
abbrev pub edge_to : Corner → Edge
edge_to k = between k.before k.vertex

abbrev pub edge_from : Corner → Edge
edge_from k = between k.vertex k.after

-- their cross
abbrev pub cross_at : Corner → ℤ
cross_at k = cross (edge_to k) (edge_from k)

-- how the way turns there
abbrev pub turn_at : Corner → ℤ
turn_at k = turn (edge_to k) (edge_from k)

-- to the left
abbrev pub left_at : Corner → Bool
left_at k = eq_z (turn_at k) (pos 1)

-- to the right
abbrev pub right_at : Corner → Bool
right_at k = eq_z (turn_at k) (negsuc 0)

-- cross 0
abbrev pub aligned_at : Corner → Bool
aligned_at k = aligned (edge_to k) (edge_from k)

-- cross 0 with dot below 0
abbrev pub reverses_at : Corner → Bool
reverses_at k = reverses (edge_to k) (edge_from k)

-- the corner at number j of a closed contour
abbrev pub corner_in : List Point → ℕ → Corner
corner_in l j = record { before = preceding origin l j; vertex = slice_index_or l j origin; after = following origin l j }
