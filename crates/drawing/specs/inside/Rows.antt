-- What the inner functions say to each other.
use Rattle.std.specs.Prelude.{◌≡◌, Bool, true, ◌&&◌, List, [], ◌∷◌, ◌++◌, map, ℕ, zero, suc, ◌+◌, ◌%◌, ◌<◌, ◌≤◌, length, get_or, replicate, Float}
use Rattle.std.specs.Float.{nan}
use Rattle.grid.specs.declared.Point.{Point}
use Rattle.buffer.specs.declared.ranges.Span.{Span}
use Rattle.buffer.specs.Spans.{span, size}
use Rattle.buffer.specs.Sets.{joined}
use Rattle.millimetres.specs.Scale.{units, on_grid}
use Rattle.drawing.specs.declared.answer.Drawn.{Drawn}
use Rattle.drawing.specs.declared.command.Place.{Place}

-- both coordinates are on the grid
abbrev pub on : Place → Bool
on p = on_grid p.x && on_grid p.y

-- the grid's point at a place
abbrev pub point : Place → Point
point p = record { x = units p.x; y = units p.y }

-- an even count of floats, all on the grid
pub record Coordinates (floats : List Float) : Type 0 where
  pub even : length floats % 2 ≡ 0
  pub on_grid : (i : ℕ) → i < length floats → on_grid (get_or floats i nan) ≡ true

-- how many Lines stand in front
unfoldable pub run : List ℕ → ℕ
run [] = 0
run (zero ∷ kinds) = 0
run (suc zero ∷ kinds) = suc (run kinds)
run (suc (suc k) ∷ kinds) = 0

-- how many points each contour has, by the kinds alone
unfoldable pub sizes : List ℕ → List ℕ
sizes [] = []
sizes (zero ∷ kinds) = suc (run kinds) ∷ sizes kinds
sizes (suc k ∷ kinds) = sizes kinds

-- the kinds of a contour of n points
unfoldable pub contour_kinds : ℕ → List ℕ
contour_kinds zero = []
contour_kinds (suc n) = 0 ∷ replicate n 1 ++ 2 ∷ []

-- the kinds of the contours of a set
abbrev pub set_kinds : List Span → List ℕ
set_kinds l = joined (map (λ (s : Span). contour_kinds (size s)) l)

-- 1 for a contour of n points, and 0 for an empty one
abbrev pub one : ℕ → ℕ
one zero = 0
one (suc n) = 1

-- how many spans are not empty
unfoldable pub filled : List Span → ℕ
filled [] = 0
filled (s ∷ l) = one (size s) + filled l

-- no range runs backward
abbrev pub Forward : List (List ℕ) → Type 0
Forward ranges = (i : ℕ) → i < length ranges → (span (get_or ranges i [])).start ≤ (span (get_or ranges i [])).end

-- the answer of a refused export
abbrev pub none_drawn : ℕ → Drawn
none_drawn reply = record { reply = reply; commands = 0; floats = 0 }
