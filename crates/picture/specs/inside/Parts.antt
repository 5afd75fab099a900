-- What the inner functions say to each other.
use Rattle.std.specs.Prelude.{◌≡◌, Bool, true, false, List, [], ◌∷◌, ◌++◌, ℕ, zero, suc, ◌+◌, ◌*◌, ◌≤◌, ℤ}
use Rattle.grid.specs.Limits.{limit}
use Rattle.grid.specs.Points.{on}
use Rattle.grid.specs.Domain.{count, Contour}
use Rattle.buffer.specs.Sets.{joined}
use Rattle.setfile.specs.Editions.{is_second}
use Rattle.report.specs.Listing.{job}
use Rattle.report.specs.inside.Lines.{Listable}
use Rattle.report.specs.Text.{decimal, signed, space, line_end}
use Rattle.picture.specs.declared.inner.frame.Extent.{Extent}
use Rattle.picture.specs.declared.inner.frame.Sizes.{Sizes}
use Rattle.picture.specs.Names.{svg, style, g, path, text, xmlns, view_box, transform, font_size, class, d, y, namespace, from_zero, translate, flipped, closed, in_micrometres, removed, kept, scale, from_here, below, mm, look}
use Rattle.picture.specs.Markup.{attribute, attributes, element}
use Rattle.picture.specs.Frame.{to_origin, bar, label}

-- both corners are on the grid
abbrev pub On : Extent → Type 0
On e = (on limit e.low ≡ true) × (on limit e.high ≡ true)

-- sizes of an extent on the grid
pub record Small (s : Sizes) : Type 0 where
  pub wide : s.width ≤ 2147483646
  pub high : s.height ≤ 2147483646
  pub letters : s.letter ≤ 53687092

-- the beginning of an attribute whose value is still to come, the end of it, and the end of it and of its element
abbrev pub named : List ℕ → List ℕ
named name = space ++ name ++ 61 ∷ 34 ∷ []

abbrev pub ended : List ℕ
ended = 34 ∷ 62 ∷ 10 ∷ []

abbrev pub left : List ℕ
left = 34 ∷ 47 ∷ 62 ∷ 10 ∷ []

-- how far the job is moved
abbrev pub offset : Extent → List ℕ
offset e = signed (to_origin e).dx ++ space ++ signed (to_origin e).dy

-- the words up to the first number, and those between the frame and the place of the job
abbrev pub before_view : List ℕ
before_view = 60 ∷ svg ++ attributes (attribute xmlns namespace ∷ []) ++ named view_box ++ from_zero

abbrev pub before_placing : List ℕ
before_placing = ended ++ element style [] look ++ line_end ++ 60 ∷ g ++ named transform ++ translate

-- a picture up to its first shape
abbrev pub opening : Extent → Sizes → List ℕ
opening e s =
    ((before_view ++ decimal (s.width + 6 * s.letter)) ++ (space ++ decimal (s.height + 8 * s.letter)))
    ++ (((before_placing ++ decimal (3 * s.letter)) ++ (space ++ decimal (3 * s.letter)))
    ++ (flipped ++ (offset e ++ (closed ++ ended))))

-- the words before the place of the scale, before its letters, before its bar, before its label and behind it
abbrev pub before_scaling : List ℕ
before_scaling = 60 ∷ 47 ∷ g ++ 62 ∷ 10 ∷ 60 ∷ g ++ named transform ++ translate

abbrev pub before_letters : List ℕ
before_letters = in_micrometres ++ 34 ∷ named font_size

abbrev pub before_bar : List ℕ
before_bar = ended ++ 60 ∷ path ++ attributes (attribute class scale ∷ []) ++ named d ++ from_here

abbrev pub before_label : List ℕ
before_label = left ++ 60 ∷ text ++ attributes (attribute y below ∷ []) ++ 62 ∷ []

abbrev pub behind_label : List ℕ
behind_label = mm ++ 60 ∷ 47 ∷ text ++ 62 ∷ 10 ∷ 60 ∷ 47 ∷ g ++ 62 ∷ 10 ∷ 60 ∷ 47 ∷ svg ++ 62 ∷ 10 ∷ []

-- a picture behind its last shape
abbrev pub closing : Sizes → List ℕ
closing s =
    ((before_scaling ++ decimal s.letter) ++ (space ++ decimal (s.height + 5 * s.letter)))
    ++ (((before_letters ++ decimal s.letter) ++ (before_bar ++ decimal (bar s.width)))
    ++ (before_label ++ (label (bar s.width) ++ behind_label)))

-- the words before the dots of the removed vertices, and before those of the kept ones
abbrev pub before_removed : List ℕ
before_removed = 60 ∷ path ++ attributes (attribute class removed ∷ []) ++ named d

abbrev pub before_kept : List ℕ
before_kept = left ++ 60 ∷ path ++ attributes (attribute class kept ∷ []) ++ named d

-- the beginning of the path of a shape
abbrev pub path_begun : List ℕ
path_begun = 60 ∷ path ++ named d

-- what stands before contour i: where it begins a shape, the end of the path before it, if there is one, and the beginning of its own
unfoldable pub before : Bool → ℕ → List ℕ
before false i = []
before true zero = path_begun
before true (suc i) = left ++ path_begun

-- a file of n contours that is not refused, and its points
pub record Dotted (second : Bool) (f : List ℕ) (n : ℕ) (points : List ℤ) : Type 0 where
  pub own : second ≡ is_second f
  pub listable : Listable second f n
  pub is : points ≡ joined (job f)
  pub contour : Contour points (count points)
