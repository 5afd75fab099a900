-- Sets: as lists of contours or of shapes, and flat.
use Rattle.std.specs.Prelude.{◌≡◌, List, [], ◌∷◌, ◌++◌, map, ◌*◌, length, take, drop, ℤ}
use Rattle.grid.specs.Domain.{count}
use Rattle.buffer.specs.declared.ranges.Span.{Span}
use Rattle.buffer.specs.Spans.{size, laid}

module _ {A : Type 0} where
  -- the part of a list that a span names
  abbrev pub cut : List A → Span → List A
  cut l s = take (size s) (drop s.start l)

  -- lists laid end to end
  unfoldable pub joined : List (List A) → List A
  joined [] = []
  joined (a ∷ l) = a ++ joined l

-- a span of points, as a span of their numbers
abbrev pub doubled : Span → Span
doubled s = record { start = 2 * s.start; end = 2 * s.end }

-- the contour that a span names
abbrev pub contour : List ℤ → Span → List ℤ
contour points s = cut points (doubled s)

-- the contours of a flat set
abbrev pub contours : List ℤ → List Span → List (List ℤ)
contours points l = map (contour points) l

-- the shapes of a flat shape set, each a list of contours
abbrev pub shapes : List ℤ → List Span → List Span → List (List (List ℤ))
shapes points cs ss = map (cut (contours points cs)) ss

-- the spans of the contours of a set, once their points are laid end to end
abbrev pub contour_spans : List (List ℤ) → List Span
contour_spans set = laid 0 (map count set)

-- the spans of the shapes of a set, once their contours are laid end to end
abbrev pub shape_spans : List (List (List ℤ)) → List Span
shape_spans set = laid 0 (map length set)

-- the span of all points of a contour
abbrev pub whole : List ℤ → Span
whole points = record { start = 0; end = count points }

-- the span of all contours of a shape
abbrev pub every : {A : Type 0} → List A → Span
every contours = record { start = 0; end = length contours }

-- every contour has an even count of numbers
abbrev pub Even : List (List ℤ) → Type 0
Even [] = Unit {0}
Even (c ∷ set) = (length c ≡ 2 * count c) × Even set
