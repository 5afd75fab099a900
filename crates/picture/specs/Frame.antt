-- How large a job is, and how its picture is laid out.
use Rattle.std.specs.Prelude.{true, false, List, [], ◌∷◌, ◌++◌, ℕ, zero, suc, ◌+◌, ◌*◌, ◌/◌, leb, ltb, ℤ, nat_abs}
use Rattle.std.specs.Int.Signed.{lt_z}
use Rattle.grid.specs.declared.Point.{Point}
use Rattle.grid.specs.declared.Edge.{Edge}
use Rattle.grid.specs.Points.{origin}
use Rattle.grid.specs.Edges.{between}
use Rattle.report.specs.Text.{decimal, signed, space}
use Rattle.picture.specs.declared.inner.frame.Extent.{Extent}
use Rattle.picture.specs.declared.inner.frame.Sizes.{Sizes}
use Rattle.picture.specs.Names.{from_zero, translate, flipped, closed, in_micrometres, tenth, hundredth, thousandth}

-- the lesser and the greater of two coordinates
abbrev pub lesser : ℤ → ℤ → ℤ
lesser a b = elim (lt_z a b) [ true ↦ a | false ↦ b ]

abbrev pub greater : ℤ → ℤ → ℤ
greater a b = elim (lt_z a b) [ true ↦ b | false ↦ a ]

-- the corners of the smallest box along the axes that has a point more
abbrev pub widened : Extent → Point → Extent
widened e p = record {
  low = record { x = lesser p.x e.low.x; y = lesser p.y e.low.y };
  high = record { x = greater p.x e.high.x; y = greater p.y e.high.y };
}

-- that has all of these more
unfoldable pub widened_by : Extent → List Point → Extent
widened_by e [] = e
widened_by e (p ∷ l) = widened_by (widened e p) l

-- the extent of points, and of none the origin
unfoldable pub extent : List Point → Extent
extent [] = record { low = origin; high = origin }
extent (p ∷ l) = widened_by (record { low = p; high = p }) l

-- how high a letter is: one unit more than a fortieth of the larger of a width and a height
abbrev pub letter : ℕ → ℕ → ℕ
letter w h = elim (ltb w h) [ true ↦ h | false ↦ w ] / 40 + 1

-- how wide and how high an extent is, and its letters
abbrev pub sizes_by : ℕ → ℕ → Sizes
sizes_by w h = record { width = w; height = h; letter = letter w h }

abbrev pub sizes : Extent → Sizes
sizes e = sizes_by (nat_abs (between e.low e.high).dx) (nat_abs (between e.low e.high).dy)

-- the frame: margins of three letters, and below the job five for the scale
abbrev pub view : Sizes → List ℕ
view s = from_zero ++ decimal (s.width + 6 * s.letter) ++ space ++ decimal (s.height + 8 * s.letter)

-- the edge from the upper left corner of the job to the origin
abbrev pub to_origin : Extent → Edge
to_origin e = between (record { x = e.low.x; y = e.high.y }) origin

-- where the job is drawn: moved by that edge, turned over, since a picture counts y downward, and moved into the frame
abbrev pub placing : Extent → Sizes → List ℕ
placing e s =
    translate ++ decimal (3 * s.letter) ++ space ++ decimal (3 * s.letter) ++ flipped
    ++ signed (to_origin e).dx ++ space ++ signed (to_origin e).dy ++ closed

-- where the scale is drawn, which is in micrometres
abbrev pub scaling : Sizes → List ℕ
scaling s = translate ++ decimal s.letter ++ space ++ decimal (s.height + 5 * s.letter) ++ in_micrometres

-- the bar of the scale in micrometres, of which 125 are 128 units: from a length on, ten times as long at most so often, while the longer one is within the width
unfoldable pub bar_from : ℕ → ℕ → ℕ → ℕ
bar_from zero long width = long
bar_from (suc k) long width = elim (ltb (125 * width) (1280 * long)) [ true ↦ long | false ↦ bar_from k (long * 10) width ]

-- a power of ten from 1 micrometre to 1,000,000 millimetres
abbrev pub bar : ℕ → ℕ
bar width = bar_from 9 1 width

-- how many millimetres that is
unfoldable pub label : ℕ → List ℕ
label long =
    elim (leb 1000 long) [
      | true ↦ decimal (long / 1000)
      | false ↦ elim (leb 100 long) [ true ↦ tenth | false ↦ elim (leb 10 long) [ true ↦ hundredth | false ↦ thousandth ] ]
    ]
