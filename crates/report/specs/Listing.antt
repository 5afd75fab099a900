-- What the program writes for a file of either edition.
use Rattle.std.specs.Prelude.{Bool, true, false, List, [], ◌∷◌, ◌++◌, ℕ, zero, suc, eqb, leb, length, ℤ}
use Rattle.grid.specs.Points.{points}
use Rattle.grid.specs.Area.{reported}
use Rattle.replies.specs.Ladder.{Rung, first_of, room}
use Rattle.grid.specs.Domain.{count}
use Rattle.ring.specs.declared.Rule as R
use Rattle.ring.specs.Walk.{End}
use Rattle.ring.specs.Walk.End.{kept, collapsed}
use Rattle.clean.specs.Outcome.{walked}
use Rattle.buffer.specs.Sets.{joined}
use Rattle.setfile.specs.Entries.{contours_of, read_contours}
use Rattle.setfile.specs.Editions.{is_second, parsed}
use Rattle.setfile.specs.Reading.{refusals}
use Rattle.report.specs.Text.{decimal, signed, dash, space, line_end, heading, refused}

-- how many points a walk keeps, and - where the contour has collapsed
abbrev pub after : End → List ℕ
after (kept s) = decimal (length s)
after collapsed = dash

-- the doubled area as it is reported, and - for an empty contour
abbrev pub area2 : List ℤ → List ℕ
area2 c = elim (eqb (count c) 0) [ true ↦ dash | false ↦ signed (reported (points c)) ]

-- the line of contour number k, which is cleaned by a rule
unfoldable pub line : R.Rule → ℕ → List ℤ → List ℕ
line rule k c =
    decimal k ++ space ++ decimal (count c) ++ space ++ after (walked rule c).end ++ space
    ++ decimal (walked rule c).tally.decisions ++ space ++ area2 c ++ line_end

-- the lines of contours, numbered from k on
unfoldable pub lines : R.Rule → ℕ → List (List ℤ) → List ℕ
lines rule k [] = []
lines rule k (c ∷ l) = line rule k c ++ lines rule (suc k) l

-- the rule of an edition, told by whether it is the second: a job of that one keeps its straight-on points, and is despiked; one of the first is cleaned of them
abbrev pub rule_of : Bool → R.Rule
rule_of true = R.Rule.Spike
rule_of false = R.Rule.Collinear

-- how many points the program has room for
abbrev pub most_listed : ℕ
most_listed = 8192

-- the contours of a file
abbrev pub job : List ℕ → List (List ℤ)
job f = contours_of (read_contours (parsed f))

-- what is refused, in this order: what the reader refuses, and 5 for more points than there is room for
abbrev pub listing_refusals : List ℕ → List Rung
listing_refusals f = refusals f ++ room (leb (count (joined (job f))) most_listed)

-- the listing of a file: that it is refused, and by which number, or the heading and a line for each contour
unfoldable pub listing : List ℕ → List ℕ
listing f =
    elim (first_of (listing_refusals f)) [
      | suc r ↦ refused ++ decimal (suc r) ++ line_end
      | zero ↦ heading ++ lines (rule_of (is_second f)) 1 (job f)
    ]
