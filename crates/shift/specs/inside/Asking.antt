-- What is said of a point that is asked of a press's contours.
use mathlib.Core.Path.{◌≡◌}
use mathlib.Core.Bool.{Bool, true, false}
use mathlib.Core.List.{List, map}
use Prim.Native.Nat.{ℕ, ◌<◌, ◌≤◌}
use lib.Dec.{eqb}
use lib.IntN.{ℤ}
use lib.ListN.{length, take, drop}
use Rattle.grid.specs.Limits.{limit}
use Rattle.grid.specs.declared.Point.{Point}
use Rattle.grid.specs.Points.{on}
use Rattle.buffer.specs.Sets.{contour}
use Rattle.pool.specs.Rows.{Slot, slots, span_of}
use Rattle.pool.specs.Outcome.{own_slots}
use Rattle.sets.specs.Contains.{inside_none, has}
use Rattle.sifting.specs.inside.Sifting.{InPlace}
use Rattle.sifting.specs.inside.Cleaning.{field}

-- the place that rules a point out: outside the first contour, or inside a later one
abbrev pub ruled_by : Bool → ℕ → Bool
ruled_by false place = eqb place 0
ruled_by true place = eqb place 2

-- whether a shape has a point, or contours behind a first one that has it leave it
abbrev pub has_from : Bool → Point → List (List ℤ) → Bool
has_from false p l = has p l
has_from true p l = inside_none p l

-- the contours of a press from record i on
abbrev pub shape_from : List ℤ → List (List ℕ) → ℕ → ℕ → ℕ → List (List ℤ)
shape_from points records n press i = map (λ (s : Slot). contour points (span_of s)) (own_slots press (drop i (take n (slots records))))

-- a point on the grid is asked of rows that hold a pool
pub record Askable (points : List ℤ) (records : List (List ℕ)) (n : ℕ) (p : Point) : Type 0 where
  pub there : n ≤ length records
  pub lies : (i : ℕ) → i < n → InPlace points (field records i 0) (field records i 1)
  pub on_grid : on limit p ≡ true
