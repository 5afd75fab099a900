-- Which vertex is to go.
use Rattle.std.specs.Prelude.{◌≡◌, Bool, true, false, ◌||◌, List, ℕ, ℤ, pos}
use Rattle.grid.specs.declared.Edge.{Edge}
use Rattle.grid.specs.Points.{at, same}
use Rattle.grid.specs.Edges.{still, aligned, reverses}
use Rattle.grid.specs.Corners.{Corner, cross_at, aligned_at, reverses_at}
use Rattle.ring.specs.declared.Rule.{Rule}
use Rattle.ring.specs.declared.Rule.TheVariants.{Collinear, Spike}

-- Collinear cleaning removes a vertex with cross 0. Despiking removes one equal to either neighbour, or with cross 0 and dot below 0.
unfoldable pub goes_at : Rule → Corner → Bool
goes_at Collinear k = aligned_at k
goes_at Spike k = same k.vertex k.before || (same k.vertex k.after || reverses_at k)

-- The rule Collinear, or the rule Spike.
abbrev pub by : Bool → Rule
by true = Collinear
by false = Spike

-- The same of the edges to a vertex and from it.
unfoldable pub goes_along : Rule → Edge → Edge → Bool
goes_along Collinear u v = aligned u v
goes_along Spike u v = still u || (still v || reverses u v)

-- The corner at three positions of a row: a predecessor, a vertex and a successor.
abbrev pub corner_of : List ℤ → ℕ → ℕ → ℕ → Corner
corner_of row a c b = record { before = at row a; vertex = at row c; after = at row b }

-- A rule says of a corner whether its vertex is to go. Any rule, on the positions of a row.
abbrev pub goes_in : (Corner → Bool) → List ℤ → ℕ → ℕ → ℕ → Bool
goes_in goes row a c b = goes (corner_of row a c b)

-- One of the two rules.
abbrev pub goes : Rule → List ℤ → ℕ → ℕ → ℕ → Bool
goes rule = goes_in (goes_at rule)

-- By a rule, whichever it is, a vertex that is to go has cross 0.
abbrev pub CrossZero : (Corner → Bool) → Type 0
CrossZero goes = (k : Corner) → goes k ≡ true → cross_at k ≡ pos 0
