-- The vertices of a job, told apart by whether cleaning keeps them.
use Rattle.std.specs.Prelude.{Bool, true, false, not, ◌||◌, List, [], ◌∷◌, ◌++◌, map, ℕ, zero, suc, eqb, replicate, ℤ}
use Rattle.grid.specs.declared.Point.{Point}
use Rattle.grid.specs.Points.{points}
use Rattle.grid.specs.Domain.{count}
use Rattle.ring.specs.declared.Rule as R
use Rattle.ring.specs.Walk.{End}
use Rattle.ring.specs.Walk.End.{kept, collapsed}
use Rattle.clean.specs.Outcome.{walked}
use Rattle.buffer.specs.Sets.{joined}
use Rattle.setfile.specs.Editions.{is_second}
use Rattle.report.specs.Text.{signed, space}
use Rattle.report.specs.Listing.{rule_of, job}

-- a position is one of these
abbrev pub among : ℕ → List ℕ → Bool
among i [] = false
among i (j ∷ s) = eqb i j || among i s

-- of each of n positions from i on, whether it is one of these
unfoldable pub told : ℕ → ℕ → List ℕ → List Bool
told zero i s = []
told (suc n) i s = among i s ∷ told n (suc i) s

-- of each of n points, whether a walk that ended so keeps it: of a collapsed contour none is kept
abbrev pub kept_by : End → ℕ → List Bool
kept_by (kept s) n = told n 0 s
kept_by collapsed n = replicate n false

-- of each point of a contour, whether cleaning it by a rule keeps it
abbrev pub kept_of : R.Rule → List ℤ → List Bool
kept_of rule c = kept_by (walked rule c).end (count c)

-- of each point of contours
abbrev pub all_kept : R.Rule → List (List ℤ) → List Bool
all_kept rule l = joined (map (kept_of rule) l)

-- a vertex: its point, and whether it is kept
pub record Vertex : Type 0 where
  pub point : Point
  pub stays : Bool

-- points, each with whether it is kept
unfoldable pub vertices : List Bool → List Point → List Vertex
vertices [] l = []
vertices (k ∷ ks) [] = []
vertices (k ∷ ks) (p ∷ l) = record { point = p; stays = k } ∷ vertices ks l

-- the vertices of a file, of which each contour is cleaned by itself, by the rule of its edition
abbrev pub job_vertices : List ℕ → List Vertex
job_vertices f = vertices (all_kept (rule_of (is_second f)) (job f)) (points (joined (job f)))

-- a point as a part of a path: a line from it to itself, which is drawn as a dot
abbrev pub dot : Point → List ℕ
dot p = 77 ∷ signed p.x ++ space ++ signed p.y ++ 104 ∷ 48 ∷ []

-- a vertex is one of those that are asked for: the kept ones, or the others
abbrev pub asked : Bool → Vertex → Bool
asked true v = v.stays
asked false v = not v.stays

-- its dot, if it is
abbrev pub dot_if : Bool → Vertex → List ℕ
dot_if b v = elim (asked b v) [ true ↦ dot v.point | false ↦ [] ]

-- the dots of those that are kept, or of the others
abbrev pub dots : Bool → List Vertex → List ℕ
dots b l = joined (map (dot_if b) l)
