-- What the calls on shape sets answer.
use Rattle.std.specs.Prelude.{Bool, ◌&&◌, List, [], ◌∷◌, ◌++◌, map, ℕ, eqb, length, get_or, ℤ}
use Rattle.replies.specs.declared.Verdict.{Verdict}
use Rattle.replies.specs.Ladder.{Rung, first_of}
use Rattle.grid.specs.Limits.{limit}
use Rattle.grid.specs.Domain.{count, domain}
use Rattle.replies.specs.Verdicts.{verdict}
use Rattle.buffer.specs.declared.answer.Counted.{Counted}
use Rattle.buffer.specs.Spans.{spans, sound, moved}
use Rattle.buffer.specs.Sets.{shapes, whole, every}
use Rattle.rows.specs.Parts.{Part, none}
use Rattle.buffer.specs.Parts.{shape_parts, handed}
use Rattle.buffer.specs.Refusals.{set, both}
use Rattle.buffer.specs.Answers.{counted, Outcome, stored}

-- what every call asks of a shape set: its contours and its shapes have sound ranges
abbrev pub refusals : List ℤ → List (List ℕ) → List (List ℕ) → List Rung
refusals p cs ss = set limit p (sound (spans cs) (count p) && sound (spans ss) (length cs))

-- no points, even with ranges
unfoldable pub is_empty : List ℤ → List (List ℕ) → List (List ℕ) → Verdict
is_empty p cs ss = verdict (first_of (refusals p cs ss)) (eqb (count p) 0)

-- how many points
unfoldable pub points_count : List ℤ → List (List ℕ) → List (List ℕ) → Counted
points_count p cs ss = counted (first_of (refusals p cs ss)) (count p)

-- how many contours
unfoldable pub contours_count : List ℤ → List (List ℕ) → List (List ℕ) → Counted
contours_count p cs ss = counted (first_of (refusals p cs ss)) (length cs)

-- how many shapes
unfoldable pub shapes_count : List ℤ → List (List ℕ) → List (List ℕ) → Counted
shapes_count p cs ss = counted (first_of (refusals p cs ss)) (length ss)

-- how many contours shape number s has, and 0 where it is not there
unfoldable pub contours_in : List ℤ → List (List ℕ) → List (List ℕ) → ℕ → Counted
contours_in p cs ss s = counted (first_of (refusals p cs ss)) (length (get_or (shapes p (spans cs) (spans ss)) s []))

-- contour number c of shape number s, or the empty part of the points where it is not there
unfoldable pub contour_of : Part → List (List ℕ) → List (List ℕ) → ℕ → ℕ → Part
contour_of p cs ss s c = handed (first_of (refusals p.numbers cs ss)) p (get_or (get_or (shape_parts p (spans cs) (spans ss)) s []) c (none p))

-- a set of one shape, of one contour
abbrev pub with_contour : List ℤ → List ℤ → List (List ℕ) → List (List ℕ) → Outcome
with_contour p out contours shapes = stored (domain limit p) p (whole p ∷ []) (every (whole p ∷ []) ∷ []) out contours shapes

-- a set of one shape
abbrev pub with_shape : List ℤ → List (List ℕ) → List ℤ → List (List ℕ) → List (List ℕ) → Outcome
with_shape p cs out contours shapes =
    stored (set limit p (sound (spans cs) (count p)))
    p (spans cs) (every cs ∷ [])
    out contours shapes

-- a set of shapes
abbrev pub with_shapes : List ℤ → List (List ℕ) → List (List ℕ) → List ℤ → List (List ℕ) → List (List ℕ) → Outcome
with_shapes p cs ss out contours shapes = stored (refusals p cs ss) p (spans cs) (spans ss) out contours shapes

-- the ranges of a set and of a shape that is added to it are sound
abbrev pub both_sound : List ℤ → List (List ℕ) → List (List ℕ) → List ℤ → List (List ℕ) → Bool
both_sound p cs ss more mcs = sound (spans cs) (count p) && sound (spans ss) (length cs) && sound (spans mcs) (count more)

-- the shapes of a set, and one more
abbrev pub with_one_more : List ℤ → List (List ℕ) → List (List ℕ) → List ℤ → List (List ℕ) → List ℤ → List (List ℕ) → List (List ℕ) → Outcome
with_one_more p cs ss more mcs out contours shapes =
    stored (both p more (both_sound p cs ss more mcs))
    (p ++ more) (spans cs ++ map (moved (count p)) (spans mcs)) (spans ss ++ moved (length cs) (every mcs) ∷ [])
    out contours shapes
