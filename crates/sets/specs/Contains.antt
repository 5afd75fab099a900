-- Whether a shape has a point.
use Rattle.std.specs.Prelude.{ℕ, Bool, false, not, ◌&&◌, List, [], ◌∷◌, ◌++◌, ℤ, ◌==◌}
use Rattle.grid.specs.Limits.{limit}
use Rattle.grid.specs.declared.Point.{Point}
use Rattle.replies.specs.declared.Verdict.{Verdict}
use Rattle.grid.specs.Points.{on, points}
use Rattle.replies.specs.Ladder.{Rung, first_of}
use Rattle.replies.specs.Verdicts.{verdict}
use Rattle.path.specs.Locate.{location}
use Rattle.buffer.specs.Spans.{spans}
use Rattle.buffer.specs.Sets.{contours}
use Rattle.buffer.specs.Contours.{refusals}
use Rattle.sets.specs.Verdicts.{every}

-- p lies outside a contour: not inside it, and not on its boundary
abbrev pub outside : Point → List ℤ → Bool
outside p c = location p (points c) == 0

-- p lies inside a contour: not on its boundary
abbrev pub inside : Point → List ℤ → Bool
inside p c = location p (points c) == 2

-- p lies inside none of these contours
abbrev pub inside_none : Point → List (List ℤ) → Bool
inside_none p set = every (λ c. not (inside p c)) set

-- p lies inside the first contour or on its boundary, and inside no later one; an empty shape has nothing
unfoldable pub has : Point → List (List ℤ) → Bool
has p [] = false
has p (c ∷ later) = not (outside p c) && inside_none p later

-- the refusals: 3 also for an asked point off the grid
abbrev pub shape_refusals : Point → List ℤ → List (List ℕ) → List Rung
shape_refusals a p ranges = refusals p ranges ++ (not (on limit a), 3) ∷ []

-- the answer
unfoldable pub in_shape : List ℤ → List (List ℕ) → ℤ → ℤ → Verdict
in_shape p ranges x y =
    let a : Point = record { x = x; y = y } in
    verdict (first_of (shape_refusals a p ranges)) (has a (contours p (spans ranges)))
