-- The area of a set, which is a contour set or a shape set.
use Rattle.std.specs.Prelude.{ℕ, Bool, not, List, [], ◌∷◌, ◌++◌, ℤ, pos, ◌+ℤ◌, ◌==◌}
use Rattle.grid.specs.Points.{points}
use Rattle.grid.specs.Area.{wrapped, reported, halved}
use Rattle.replies.specs.Ladder.{Rung, first_of}
use Rattle.grid.specs.Domain.{count}
use Rattle.area.specs.declared.answer.Area.{Area}
use Rattle.area.specs.Answers.{answer}
use Rattle.buffer.specs.Spans.{spans}
use Rattle.buffer.specs.Sets.{contours}
use Rattle.buffer.specs.Contours.{refusals as contour_refusals}
use Rattle.buffer.specs.Shapes.{refusals as shape_refusals}
use Rattle.sets.specs.Verdicts.{every}

-- a contour has points
abbrev pub filled : List ℤ → Bool
filled c = not (count c == 0)

-- 8: an empty contour
abbrev pub empty : List (List ℤ) → List Rung
empty set = (not (every filled set), 8) ∷ []

-- the sum of the contours' reported doubled areas
unfoldable pub sum : List (List ℤ) → ℤ
sum [] = pos 0
sum (c ∷ set) = reported (points c) +ℤ sum set

-- the reported doubled area of a set
abbrev pub reported_sum : List (List ℤ) → ℤ
reported_sum set = wrapped (sum set)

-- the refusals of an area: a set's, and 8
abbrev pub area_refusals : List Rung → List (List ℤ) → List Rung
area_refusals refusals set = refusals ++ empty set

-- the doubled area, as it is answered of a set with these refusals and these contours
unfoldable pub doubled_by : List Rung → List (List ℤ) → Area
doubled_by refusals set = answer (first_of (area_refusals refusals set)) (reported_sum set)

-- the halved area, as it is answered
unfoldable pub half_by : List Rung → List (List ℤ) → Area
half_by refusals set = answer (first_of (area_refusals refusals set)) (halved (reported_sum set))

-- an area that was answered, halved
abbrev pub half_of : Area → Area
half_of two = record { reply = two.reply; value = halved two.value }

-- the doubled area of a contour set
abbrev pub doubled : List ℤ → List (List ℕ) → Area
doubled p ranges = doubled_by (contour_refusals p ranges) (contours p (spans ranges))

-- the halved area of a contour set
abbrev pub half : List ℤ → List (List ℕ) → Area
half p ranges = half_by (contour_refusals p ranges) (contours p (spans ranges))

-- the doubled area of a shape set
abbrev pub shapes_doubled : List ℤ → List (List ℕ) → List (List ℕ) → Area
shapes_doubled p cs ss = doubled_by (shape_refusals p cs ss) (contours p (spans cs))

-- the halved area of a shape set
abbrev pub shapes_half : List ℤ → List (List ℕ) → List (List ℕ) → Area
shapes_half p cs ss = half_by (shape_refusals p cs ss) (contours p (spans cs))
