-- A job as text, in ASCII: a line for the edition of its file, and a line for each contour.
use Rattle.std.specs.Prelude.{Bool, true, false, List, [], ◌∷◌, ◌++◌, ℕ, zero, suc, ℤ}
use Rattle.replies.specs.Ladder.{first_of}
use Rattle.setfile.specs.Entries.{Entry, read_contours}
use Rattle.setfile.specs.Editions.{number, is_second, parsed}
use Rattle.setfile.specs.Reading.{refusals}
use Rattle.report.specs.Text.{decimal, signed, space, line_end, refused}

-- edition, and a space
abbrev pub edition : List ℕ
edition = 101 ∷ 100 ∷ 105 ∷ 116 ∷ 105 ∷ 111 ∷ 110 ∷ 32 ∷ []

-- shape
abbrev pub shape : List ℕ
shape = 115 ∷ 104 ∷ 97 ∷ 112 ∷ 101 ∷ []

-- hole
abbrev pub hole : List ℕ
hole = 104 ∷ 111 ∷ 108 ∷ 101 ∷ []

-- whether a contour begins a shape, as a word
abbrev pub word : Bool → List ℕ
word true = shape
word false = hole

-- a number, behind a space
abbrev pub spaced : ℤ → List ℕ
spaced z = space ++ signed z

-- numbers, each behind a space
unfoldable pub numbers : List ℤ → List ℕ
numbers [] = []
numbers (z ∷ l) = spaced z ++ numbers l

-- the line of a contour: its word, and its numbers x y x y
abbrev pub line : Entry → List ℕ
line e = word e.begins ++ numbers e.points ++ line_end

-- the lines of contours
unfoldable pub lines : List Entry → List ℕ
lines [] = []
lines (e ∷ l) = line e ++ lines l

-- the line of an edition, told by whether it is the second
abbrev pub head : Bool → List ℕ
head second = edition ++ decimal (number second) ++ line_end

-- the text of a job in an edition
abbrev pub text : Bool → List Entry → List ℕ
text second l = head second ++ lines l

-- by the number of the first refusal: that a file is refused, or its text
abbrev pub dumped_by : ℕ → List ℕ → List ℕ
dumped_by (suc r) f = refused ++ decimal (suc r) ++ line_end
dumped_by zero f = text (is_second f) (read_contours (parsed f))

-- what the program `dump` writes for a file
unfoldable pub dumped : List ℕ → List ℕ
dumped f = dumped_by (first_of (refusals f)) f
