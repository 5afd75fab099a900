-- Parts of lent rows: where each lies, and what it holds.
use Rattle.std.specs.Prelude.{List, map, ℕ, zero, suc, ◌*◌}
use Rattle.rows.specs.Parts.{Part, lying, further, none}
use Rattle.buffer.specs.declared.ranges.Span.{Span}
use Rattle.buffer.specs.Sets.{cut, contour}

-- the contour that a span names, as a part of the points
abbrev pub named : Part → Span → Part
named points s = lying (further (2 * s.start) points.address) (contour points.numbers s)

-- the contours of a flat set, as parts of its points
abbrev pub contour_parts : Part → List Span → List Part
contour_parts points l = map (named points) l

-- the shapes of a flat shape set, each a list of such parts
abbrev pub shape_parts : Part → List Span → List Span → List (List Part)
shape_parts points cs ss = map (cut (contour_parts points cs)) ss

-- by the number of the first refusal: the empty part of the points, or the contour
abbrev pub handed : ℕ → Part → Part → Part
handed zero points contour = contour
handed (suc k) points contour = none points
