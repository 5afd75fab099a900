-- What the program draws for a file of either edition.
use Rattle.std.specs.Prelude.{Bool, true, false, List, [], ◌∷◌, ◌++◌, map, ℕ, zero, suc, ℤ}
use Rattle.grid.specs.Points.{points}
use Rattle.replies.specs.Ladder.{first_of}
use Rattle.buffer.specs.Sets.{joined}
use Rattle.setfile.specs.Entries.{shapes_of, read_contours}
use Rattle.setfile.specs.Editions.{parsed}
use Rattle.report.specs.Text.{decimal, signed, space, line_end, refused}
use Rattle.report.specs.Listing.{job, listing_refusals}
use Rattle.vertices.specs.Vertices.{Vertex, job_vertices, dots}
use Rattle.picture.specs.declared.inner.frame.Extent.{Extent}
use Rattle.picture.specs.declared.inner.frame.Sizes.{Sizes}
use Rattle.picture.specs.Names.{svg, style, g, path, text, xmlns, view_box, transform, font_size, class, d, y, namespace, removed, kept, scale, from_here, below, mm, look}
use Rattle.picture.specs.Markup.{attribute, element, lone}
use Rattle.picture.specs.Frame.{extent, sizes, view, placing, scaling, bar, label}

-- a coordinate, and a space behind it
abbrev pub coordinate : ℤ → List ℕ
coordinate z = signed z ++ space

-- the coordinates of a contour
abbrev pub coordinates : List ℤ → List ℕ
coordinates c = joined (map coordinate c)

-- a contour as a part of a path: from its first point, M, to each next one, and back, Z; an empty one is no part
unfoldable pub outline : List ℤ → List ℕ
outline [] = []
outline (z ∷ c) = 77 ∷ coordinates (z ∷ c) ++ 90 ∷ []

-- contours one behind the other
abbrev pub outlines : List (List ℤ) → List ℕ
outlines l = joined (map outline l)

-- a shape is a path of its contours
abbrev pub shape : List (List ℤ) → List ℕ
shape s = lone path (attribute d (outlines s) ∷ []) ++ line_end

-- shapes one behind the other
abbrev pub shapes : List (List (List ℤ)) → List ℕ
shapes l = joined (map shape l)

-- the vertices that are kept, or the others, as one path of dots
abbrev pub spots : List ℕ → Bool → List Vertex → List ℕ
spots name b l = lone path (attribute class name ∷ attribute d (dots b l) ∷ []) ++ line_end

-- those that are removed, and those that are kept
abbrev pub all_spots : List Vertex → List ℕ
all_spots l = spots removed false l ++ spots kept true l

-- the job, in its place
abbrev pub placed_job : Extent → Sizes → List ℕ → List ℕ
placed_job e s inner = element g (attribute transform (placing e s) ∷ []) (line_end ++ inner)

-- the scale, in its place: a bar, and below it how long it is
abbrev pub placed_scale : Sizes → List ℕ
placed_scale s =
    element g (attribute transform (scaling s) ∷ attribute font_size (decimal s.letter) ∷ [])
    (line_end
    ++ lone path (attribute class scale ∷ attribute d (from_here ++ decimal (bar s.width)) ∷ []) ++ line_end
    ++ element text (attribute y below ∷ []) (label (bar s.width) ++ mm) ++ line_end)

-- the picture of a job of this extent
abbrev pub drawn : Extent → Sizes → List ℕ → List ℕ
drawn e s inner =
    element svg (attribute xmlns namespace ∷ attribute view_box (view s) ∷ [])
    (line_end ++ element style [] look ++ line_end ++ placed_job e s inner ++ line_end ++ placed_scale s ++ line_end)
    ++ line_end

-- the shapes of a file
abbrev pub job_shapes : List ℕ → List (List (List ℤ))
job_shapes f = shapes_of (read_contours (parsed f))

-- the extent of its points
abbrev pub job_extent : List ℕ → Extent
job_extent f = extent (points (joined (job f)))

-- what is shown of it: its shapes, and over them its vertices
abbrev pub shown : List ℕ → List ℕ
shown f = shapes (job_shapes f) ++ all_spots (job_vertices f)

-- the picture of a file: that it is refused, and by which number, as the listing says it, or the job and the scale
unfoldable pub picture : List ℕ → List ℕ
picture f =
    elim (first_of (listing_refusals f)) [
      | suc r ↦ refused ++ decimal (suc r) ++ line_end
      | zero ↦ drawn (job_extent f) (sizes (job_extent f)) (shown f)
    ]
