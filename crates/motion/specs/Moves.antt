-- Outlines that are shifted by one step, or reversed; `turned/specs/Starts` has those that start elsewhere.
use Rattle.std.specs.Prelude.{◌≡◌, true, List, [], ◌∷◌, ◌++◌, ℕ, ◌*◌, take, drop, ℤ, neg_ℤ, ◌+ℤ◌}
use Rattle.grid.specs.declared.Point.{Point}
use Rattle.grid.specs.declared.Edge.{Edge}
use Rattle.grid.specs.Limits.{limit, all_on_grid}
use Rattle.grid.specs.Points.{on}
use Rattle.grid.specs.Area.{wrapped}
use Rattle.area.specs.declared.answer.Area.{Area}
use Rattle.clean.specs.Outcome as Clean
use Rattle.sets.specs.Outcome as Sets

-- a point shifted by a step
abbrev pub shift : Edge → Point → Point
shift d p = record { x = p.x +ℤ d.dx; y = p.y +ℤ d.dy }

-- every point of a row shifted by a step
unfoldable pub shifted : Edge → List ℤ → List ℤ
shifted d [] = []
shifted d (x ∷ []) = (x +ℤ d.dx) ∷ []
shifted d (x ∷ y ∷ row) = (x +ℤ d.dx) ∷ (y +ℤ d.dy) ∷ shifted d row

-- the points of a row in reversed order
unfoldable pub reversed : List ℤ → List ℤ
reversed [] = []
reversed (x ∷ []) = x ∷ []
reversed (x ∷ y ∷ row) = reversed row ++ x ∷ y ∷ []

-- a row lies on the grid, and still does when it is shifted
pub record StillOn (d : Edge) (row : List ℤ) : Type 0 where
  pub before : all_on_grid limit row ≡ true
  pub after : all_on_grid limit (shifted d row) ≡ true

-- so does an asked point
pub record AskedStillOn (d : Edge) (p : Point) : Type 0 where
  pub before : on limit p ≡ true
  pub after : on limit (shift d p) ≡ true

-- the first n numbers of a row shifted, the others as they were
abbrev pub front_shifted : Edge → ℕ → List ℤ → List ℤ
front_shifted d n row = shifted d (take n row) ++ drop n row

-- what a cleaning comes to, with the points that it wrote shifted
abbrev pub kept_shifted : Edge → Clean.Outcome → Clean.Outcome
kept_shifted d o = Clean.leaving o.answer (Clean.lent o.rows.next o.rows.prev o.rows.mark (front_shifted d (2 * o.answer.points) o.rows.out))

-- the same of a cleaning of a shape or of shapes
abbrev pub set_shifted : Edge → Sets.Outcome → Sets.Outcome
set_shifted d o = Sets.leaving
    o.answer
    (Sets.lent o.rows.next o.rows.prev o.rows.mark (front_shifted d (2 * o.answer.points) o.rows.points) o.rows.contours o.rows.shapes)

-- an area that was answered, negated modulo 2^64
abbrev pub negated : Area → Area
negated a = record { reply = a.reply; value = wrapped (neg_ℤ a.value) }
