-- What the contours of two sets are to each other, a line for each number.
use Rattle.std.specs.Prelude.{Bool, true, false, not, List, [], ◌∷◌, map, ℕ, zero, suc, min, eqb, ltb, ℤ}
use Rattle.grid.specs.Points.{at}
use Rattle.grid.specs.Points as Points
use Rattle.grid.specs.Domain.{count}
use Rattle.buffer.specs.Spans.{spans}
use Rattle.buffer.specs.Sets.{contours}
use Rattle.turned.specs.Search.{first_below}
use Rattle.turned.specs.Starts.{smallest_start}
use Rattle.difference.specs.declared.inner.lines.Line.{Line}
use Rattle.difference.specs.declared.inner.lines.Line.TheVariants.{Same, Elsewhere, Different, OnlyFirst, OnlySecond}

-- the same
abbrev pub same : Line
same = Same

-- the same after starting elsewhere, at position s of the second
abbrev pub elsewhere : ℕ → Line
elsewhere s = Elsewhere s

-- different, first at position d
abbrev pub different : ℕ → Line
different d = Different d

-- only in the first set
abbrev pub only_first : Line
only_first = OnlyFirst

-- only in the second
abbrev pub only_second : Line
only_second = OnlySecond

-- the first of n positions at which two contours differ; n where they do not
abbrev pub first_other : List ℤ → List ℤ → ℕ → ℕ
first_other first second n = first_below (λ i. not (Points.same (at second i) (at first i))) n

-- of two contours of n points, by the smallest start s of the first in the second, n where there is none, and the first position d that differs
abbrev pub judged : ℕ → ℕ → ℕ → Line
judged n zero d = same
judged n (suc s) d = elim (ltb (suc s) n) [ true ↦ elsewhere (suc s) | false ↦ different d ]

-- by whether both have as many points: of unequal counts the first difference is the shorter length, or before it
abbrev pub by_count : Bool → List ℤ → List ℤ → Line
by_count true first second = judged (count second) (smallest_start first second (count second)) (first_other first second (count second))
by_count false first second = different (first_other first second (min (count first) (count second)))

-- what two contours are to each other
unfoldable pub compared : List ℤ → List ℤ → Line
compared first second = by_count (eqb (count first) (count second)) first second

-- what the contours of two sets are to each other, by number
unfoldable pub listed : List (List ℤ) → List (List ℤ) → List Line
listed [] seconds = map (λ b. only_second) seconds
listed (a ∷ firsts) [] = only_first ∷ listed firsts []
listed (a ∷ firsts) (b ∷ seconds) = compared a b ∷ listed firsts seconds

-- of two flat sets
abbrev pub lines_of : List ℤ → List (List ℕ) → List ℤ → List (List ℕ) → List Line
lines_of points ranges others other-ranges = listed (contours points (spans ranges)) (contours others (spans other-ranges))

-- the number of a line's kind
abbrev pub kind : Line → ℕ
kind Same = 0
kind (Elsewhere s) = 1
kind (Different d) = 2
kind OnlyFirst = 3
kind OnlySecond = 4

-- its place, 0 where there is none to say
abbrev pub place : Line → ℕ
place Same = 0
place (Elsewhere s) = s
place (Different d) = d
place OnlyFirst = 0
place OnlySecond = 0

-- a line as it is written to a row: kind, place
abbrev pub row : Line → List ℕ
row l = kind l ∷ place l ∷ []

-- lines as they are written
abbrev pub written : List Line → List (List ℕ)
written = map row
