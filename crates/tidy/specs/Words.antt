-- What the programs `clean` and `despike` make of a file: the file of its cleaned shapes, and a line for each contour that went.
use Rattle.std.specs.Prelude.{Bool, true, false, List, [], ◌∷◌, ◌++◌, ℕ, zero, suc, eqb, ℤ}
use Rattle.replies.specs.Ladder.{first_of}
use Rattle.grid.specs.Points.{points}
use Rattle.grid.specs.Area.{reported}
use Rattle.grid.specs.Domain.{count}
use Rattle.ring.specs.declared.Rule.{Rule}
use Rattle.buffer.specs.Spans.{spans, rows}
use Rattle.buffer.specs.Sets.{joined, shapes, contour_spans, shape_spans}
use Rattle.sets.specs.Fates.{shapes_fate}
use Rattle.fates.specs.Fates.{kept, collapsed, fates}
use Rattle.setfile.specs.Editions.{is_second}
use Rattle.setfile.specs.Promises.{edition_file, write_refusals, points_of, contour_ranges, shape_ranges}
use Rattle.report.specs.Text.{decimal, signed, line_end}
use Rattle.report.specs.Listing.{listing_refusals}
use Rattle.jobpack.specs.Packing.{Packed, refusing, Outcome, outcome}

-- contour, and a space
abbrev pub contour : List ℕ
contour = 99 ∷ 111 ∷ 110 ∷ 116 ∷ 111 ∷ 117 ∷ 114 ∷ 32 ∷ []

-- a space, dropped, a colon and a space
abbrev pub dropped_as : List ℕ
dropped_as = 32 ∷ 100 ∷ 114 ∷ 111 ∷ 112 ∷ 112 ∷ 101 ∷ 100 ∷ 58 ∷ 32 ∷ []

-- collapsed
abbrev pub has_collapsed : List ℕ
has_collapsed = 99 ∷ 111 ∷ 108 ∷ 108 ∷ 97 ∷ 112 ∷ 115 ∷ 101 ∷ 100 ∷ []

-- behind a collapsed outline
abbrev pub stands_behind : List ℕ
stands_behind = 98 ∷ 101 ∷ 104 ∷ 105 ∷ 110 ∷ 100 ∷ 32 ∷ 97 ∷ 32 ∷ 99 ∷ 111 ∷ 108 ∷ 108 ∷ 97 ∷ 112 ∷ 115 ∷ 101 ∷ 100 ∷ 32 ∷ 111 ∷ 117 ∷ 116 ∷ 108 ∷ 105 ∷ 110 ∷ 101 ∷ []

-- a comma, a space, and no area
abbrev pub no_area : List ℕ
no_area = 44 ∷ 32 ∷ 110 ∷ 111 ∷ 32 ∷ 97 ∷ 114 ∷ 101 ∷ 97 ∷ []

-- a comma, a space, doubled area, and a space
abbrev pub doubled_area : List ℕ
doubled_area = 44 ∷ 32 ∷ 100 ∷ 111 ∷ 117 ∷ 98 ∷ 108 ∷ 101 ∷ 100 ∷ 32 ∷ 97 ∷ 114 ∷ 101 ∷ 97 ∷ 32 ∷ []

-- why a contour went, by its fate
unfoldable pub why : ℕ → List ℕ
why fate = elim (eqb fate collapsed) [ true ↦ has_collapsed | false ↦ stands_behind ]

-- its doubled area as it is reported; an empty contour has none
unfoldable pub area : List ℤ → List ℕ
area c = elim (eqb (count c) 0) [ true ↦ no_area | false ↦ doubled_area ++ signed (reported (points c)) ]

-- the line of contour number k by its fate; none where it is kept
unfoldable pub line : ℕ → ℕ → List ℤ → List ℕ
line k fate c =
    elim (eqb fate kept) [ true ↦ [] | false ↦ contour ++ decimal k ++ dropped_as ++ why fate ++ area c ++ line_end ]

-- the lines of contours by their fates, of which the first has number k
unfoldable pub lines : ℕ → List ℕ → List (List ℤ) → List ℕ
lines k [] l = []
lines k (fate ∷ fs) [] = []
lines k (fate ∷ fs) (c ∷ l) = line k fate c ++ lines (suc k) fs l

-- by the number of the writer's first refusal: refused, or the file, and these words
abbrev pub written_with : List ℕ → ℕ → List ℕ → Packed
written_with words (suc r) f = refusing (suc r)
written_with words zero f = record { file = f; words = words }

-- the number of the first refusal of shapes that are written in an edition, once they are laid end to end
abbrev pub refusal : Bool → List (List (List ℤ)) → ℕ
refusal second set = first_of (write_refusals second (joined (joined set)) (rows (contour_spans (joined set))) (rows (shape_spans set)))

-- and their file
abbrev pub file : Bool → List (List (List ℤ)) → List ℕ
file second set = edition_file second (joined (joined set)) (rows (contour_spans (joined set))) (rows (shape_spans set))

-- shapes cleaned by a rule and written in an edition, with a line for each contour that went
abbrev pub set_tidied : Rule → Bool → List (List (List ℤ)) → Packed
set_tidied rule second set =
    written_with (lines 1 (fates rule set) (joined set)) (refusal second (shapes_fate rule set).shapes) (file second (shapes_fate rule set).shapes)

-- the shapes of a file
abbrev pub shapes_in : List ℕ → List (List (List ℤ))
shapes_in f = shapes (points_of f) (spans (contour_ranges f)) (spans (shape_ranges f))

-- by the number of the first refusal of a file: refused, or its shapes cleaned and written in its edition
abbrev pub tidied_by : ℕ → Rule → List ℕ → Packed
tidied_by (suc r) rule f = refusing (suc r)
tidied_by zero rule f = set_tidied rule (is_second f) (shapes_in f)

-- what is made of a file; what is refused of it is what its listing refuses
unfoldable pub tidied : Rule → List ℕ → Packed
tidied rule f = tidied_by (first_of (listing_refusals f)) rule f

-- the file and the words, in front of both rows
unfoldable pub tidying : Rule → List ℕ → List ℕ → List ℕ → Outcome
tidying rule f out words = outcome (tidied rule f) out words
