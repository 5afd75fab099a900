-- What a file carries: contours, each with its mark whether it begins a shape.
use Rattle.std.specs.Prelude.{ℕ, Bool, true, false, List, [], ◌∷◌, map, ℤ}
use Rattle.buffer.specs.Sets.{joined}

-- a contour of a file: whether it begins a shape, and its points
pub record Entry : Type 0 where
  pub begins : Bool
  pub points : List ℤ

abbrev pub entry : Bool → List ℤ → Entry
entry begins points = record { begins = begins; points = points }

-- the contours of a file
abbrev pub contours_of : List Entry → List (List ℤ)
contours_of l = map (λ (e : Entry). e.points) l

-- a shape's contours, of which the first begins it
abbrev pub shape_entries : List (List ℤ) → List Entry
shape_entries [] = []
shape_entries (c ∷ l) = entry true c ∷ map (entry false) l

-- the contours of a set of shapes
abbrev pub entries : List (List (List ℤ)) → List Entry
entries set = joined (map shape_entries set)

-- contours that stand before any that begins a shape, and the shapes
pub record Gathered : Type 0 where
  pub loose : List (List ℤ)
  pub shapes : List (List (List ℤ))

-- one contour in front
abbrev pub gather : Bool → List ℤ → Gathered → Gathered
gather true c g = record { loose = []; shapes = (c ∷ g.loose) ∷ g.shapes }
gather false c g = record { loose = c ∷ g.loose; shapes = g.shapes }

-- contours gathered into shapes
unfoldable pub gathered : List Entry → Gathered
gathered [] = record { loose = []; shapes = [] }
gathered (e ∷ l) = gather e.begins e.points (gathered l)

-- the shapes of a file
abbrev pub shapes_of : List Entry → List (List (List ℤ))
shapes_of l = (gathered l).shapes

-- what is read of a file: its contours, or the number of its damage
pub data Parsed : Type 0 where
  carries : List Entry → Parsed
  damaged : ℕ → Parsed

-- one contour in front of what is read
abbrev pub and_then : Entry → Parsed → Parsed
and_then e (carries l) = carries (e ∷ l)
and_then e (damaged r) = damaged r

-- the number of its damage, or 0
abbrev pub damage : Parsed → ℕ
damage (carries l) = 0
damage (damaged r) = r

-- the contours that are read, none of a damaged file
abbrev pub read_contours : Parsed → List Entry
read_contours (carries l) = l
read_contours (damaged r) = []
