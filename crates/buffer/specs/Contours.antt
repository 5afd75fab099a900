-- What the calls on contour sets answer.
use Rattle.std.specs.Prelude.{List, [], ◌∷◌, ◌++◌, ℕ, eqb, length, get_or, ℤ}
use Rattle.replies.specs.declared.Verdict.{Verdict}
use Rattle.replies.specs.Ladder.{Rung, first_of}
use Rattle.grid.specs.Limits.{limit}
use Rattle.grid.specs.Domain.{count, domain}
use Rattle.replies.specs.Verdicts.{verdict}
use Rattle.buffer.specs.declared.answer.Counted.{Counted}
use Rattle.buffer.specs.Spans.{spans, sound, moved}
use Rattle.buffer.specs.Sets.{whole}
use Rattle.rows.specs.Parts.{Part, none}
use Rattle.buffer.specs.Parts.{contour_parts, handed}
use Rattle.buffer.specs.Refusals.{set, both}
use Rattle.buffer.specs.Answers.{counted, Outcome, stored}
use Rattle.buffer.specs.Shapes.{refusals as shape_refusals}

-- what every call asks of a contour set
abbrev pub refusals : List ℤ → List (List ℕ) → List Rung
refusals p ranges = set limit p (sound (spans ranges) (count p))

-- no points, even with ranges
unfoldable pub is_empty : List ℤ → List (List ℕ) → Verdict
is_empty p ranges = verdict (first_of (refusals p ranges)) (eqb (count p) 0)

-- exactly one contour
unfoldable pub is_single : List ℤ → List (List ℕ) → Verdict
is_single p ranges = verdict (first_of (refusals p ranges)) (eqb (length ranges) 1)

-- how many points
unfoldable pub points_count : List ℤ → List (List ℕ) → Counted
points_count p ranges = counted (first_of (refusals p ranges)) (count p)

-- how many contours
unfoldable pub contours_count : List ℤ → List (List ℕ) → Counted
contours_count p ranges = counted (first_of (refusals p ranges)) (length ranges)

-- contour number k, or the empty part of the points where it is not there
unfoldable pub contour_at : Part → List (List ℕ) → ℕ → Part
contour_at p ranges k = handed (first_of (refusals p.numbers ranges)) p (get_or (contour_parts p (spans ranges)) k (none p))

-- the first contour; all points where there are no ranges
unfoldable pub first_contour : Part → List (List ℕ) → Part
first_contour p [] = handed (first_of (domain limit p.numbers)) p p
first_contour p (r ∷ ranges) = contour_at p (r ∷ ranges) 0

-- a set of one contour
abbrev pub with_contour : List ℤ → List ℤ → List (List ℕ) → Outcome
with_contour p out ranges = stored (domain limit p) p (whole p ∷ []) [] out ranges []

-- the contours of a shape
abbrev pub with_shape : List ℤ → List (List ℕ) → List ℤ → List (List ℕ) → Outcome
with_shape p cs out ranges = stored (refusals p cs) p (spans cs) [] out ranges []

-- the contours of shapes; where a shape ends is dropped
abbrev pub with_shapes : List ℤ → List (List ℕ) → List (List ℕ) → List ℤ → List (List ℕ) → Outcome
with_shapes p cs ss out ranges = stored (shape_refusals p cs ss) p (spans cs) [] out ranges []

-- the contours of a set, and one more
abbrev pub with_one_more : List ℤ → List (List ℕ) → List ℤ → List ℤ → List (List ℕ) → Outcome
with_one_more p cs more out ranges =
    stored (both p more (sound (spans cs) (count p)))
    (p ++ more) (spans cs ++ moved (count p) (whole more) ∷ []) []
    out ranges []
