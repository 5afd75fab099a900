-- What the program says of two files, in ASCII.
use Rattle.std.specs.Prelude.{true, false, List, [], ◌∷◌, ◌++◌, ℕ, zero, suc, ◌+◌, eqb, get_or}
use Rattle.replies.specs.Ladder.{first_of}
use Rattle.bits.specs.Bits.{digit}
use Rattle.difference.specs.Lines.{listed, written}
use Rattle.report.specs.Text.{decimal, line_end, refused}
use Rattle.report.specs.Listing.{job, listing_refusals}

-- contour, and a space
abbrev pub contour : List ℕ
contour = 99 ∷ 111 ∷ 110 ∷ 116 ∷ 111 ∷ 117 ∷ 114 ∷ 32 ∷ []

-- a space, starts elsewhere, a colon, its first point is point, and a space
abbrev pub starts_elsewhere : List ℕ
starts_elsewhere =
    32 ∷ 115 ∷ 116 ∷ 97 ∷ 114 ∷ 116 ∷ 115 ∷ 32
    ∷ 101 ∷ 108 ∷ 115 ∷ 101 ∷ 119 ∷ 104 ∷ 101 ∷ 114 ∷ 101 ∷ 58 ∷ 32
    ∷ 105 ∷ 116 ∷ 115 ∷ 32
    ∷ 102 ∷ 105 ∷ 114 ∷ 115 ∷ 116 ∷ 32
    ∷ 112 ∷ 111 ∷ 105 ∷ 110 ∷ 116 ∷ 32
    ∷ 105 ∷ 115 ∷ 32
    ∷ 112 ∷ 111 ∷ 105 ∷ 110 ∷ 116 ∷ 32 ∷ []

-- a space, and of the second
abbrev pub of_the_second : List ℕ
of_the_second = 32 ∷ 111 ∷ 102 ∷ 32 ∷ 116 ∷ 104 ∷ 101 ∷ 32 ∷ 115 ∷ 101 ∷ 99 ∷ 111 ∷ 110 ∷ 100 ∷ []

-- a space, differs from point, and a space
abbrev pub differs_from : List ℕ
differs_from =
    32 ∷ 100 ∷ 105 ∷ 102 ∷ 102 ∷ 101 ∷ 114 ∷ 115 ∷ 32 ∷ 102 ∷ 114 ∷ 111 ∷ 109 ∷ 32 ∷ 112 ∷ 111 ∷ 105 ∷ 110 ∷ 116 ∷ 32 ∷ []

-- a space, and on
abbrev pub and_on : List ℕ
and_on = 32 ∷ 111 ∷ 110 ∷ []

-- a space, and is only in the first
abbrev pub in_the_first : List ℕ
in_the_first =
    32 ∷ 105 ∷ 115 ∷ 32 ∷ 111 ∷ 110 ∷ 108 ∷ 121 ∷ 32 ∷ 105 ∷ 110 ∷ 32 ∷ 116 ∷ 104 ∷ 101 ∷ 32 ∷ 102 ∷ 105 ∷ 114 ∷ 115 ∷ 116 ∷ []

-- a space, and is only in the second
abbrev pub in_the_second : List ℕ
in_the_second =
    32 ∷ 105 ∷ 115 ∷ 32 ∷ 111 ∷ 110 ∷ 108 ∷ 121 ∷ 32 ∷ 105 ∷ 110 ∷ 32 ∷ 116 ∷ 104 ∷ 101 ∷ 32 ∷ 115 ∷ 101 ∷ 99 ∷ 111 ∷ 110 ∷ 100 ∷ []

-- what became of a contour that is not the same, by the kind of its line in the listing and the place there; points are numbered from 1 here, and from 0 there
unfoldable pub change : ℕ → ℕ → List ℕ
change kind place =
    elim (eqb kind 1) [
      | true ↦ starts_elsewhere ++ decimal (place + 1) ++ of_the_second
      | false ↦ elim (eqb kind 2) [
        | true ↦ differs_from ++ decimal (place + 1) ++ and_on
        | false ↦ elim (eqb kind 3) [ true ↦ in_the_first | false ↦ in_the_second ]
      ]
    ]

-- the line of contour number k; none where it is the same
unfoldable pub line : ℕ → ℕ → ℕ → List ℕ
line k kind place = elim (eqb kind 0) [ true ↦ [] | false ↦ contour ++ decimal k ++ change kind place ++ line_end ]

-- the lines of a listing, whose first is of contour number k
unfoldable pub lines : ℕ → List (List ℕ) → List ℕ
lines k [] = []
lines k (row ∷ listing) = line k (get_or row 0 0) (get_or row 1 0) ++ lines (suc k) listing

-- how many lines of a listing have this kind
unfoldable pub of_kind : ℕ → List (List ℕ) → ℕ
of_kind kind [] = 0
of_kind kind (row ∷ listing) = digit (eqb (get_or row 0 0) kind) + of_kind kind listing

-- the same, a colon and a space
abbrev pub are_same : List ℕ
are_same = 116 ∷ 104 ∷ 101 ∷ 32 ∷ 115 ∷ 97 ∷ 109 ∷ 101 ∷ 58 ∷ 32 ∷ []

-- a comma, a space, started elsewhere, a colon and a space
abbrev pub are_elsewhere : List ℕ
are_elsewhere =
    44 ∷ 32 ∷ 115 ∷ 116 ∷ 97 ∷ 114 ∷ 116 ∷ 101 ∷ 100 ∷ 32 ∷ 101 ∷ 108 ∷ 115 ∷ 101 ∷ 119 ∷ 104 ∷ 101 ∷ 114 ∷ 101 ∷ 58 ∷ 32 ∷ []

-- a comma, a space, different, a colon and a space
abbrev pub are_different : List ℕ
are_different = 44 ∷ 32 ∷ 100 ∷ 105 ∷ 102 ∷ 102 ∷ 101 ∷ 114 ∷ 101 ∷ 110 ∷ 116 ∷ 58 ∷ 32 ∷ []

-- a comma, a space, only in the first, a colon and a space
abbrev pub are_in_the_first : List ℕ
are_in_the_first =
    44 ∷ 32 ∷ 111 ∷ 110 ∷ 108 ∷ 121 ∷ 32 ∷ 105 ∷ 110 ∷ 32 ∷ 116 ∷ 104 ∷ 101 ∷ 32 ∷ 102 ∷ 105 ∷ 114 ∷ 115 ∷ 116 ∷ 58 ∷ 32 ∷ []

-- a comma, a space, only in the second, a colon and a space
abbrev pub are_in_the_second : List ℕ
are_in_the_second =
    44 ∷ 32 ∷ 111 ∷ 110 ∷ 108 ∷ 121 ∷ 32 ∷ 105 ∷ 110 ∷ 32 ∷ 116 ∷ 104 ∷ 101 ∷ 32 ∷ 115 ∷ 101 ∷ 99 ∷ 111 ∷ 110 ∷ 100 ∷ 58 ∷ 32 ∷ []

-- a word, and how many lines have this kind
abbrev pub how_many : List ℕ → ℕ → List (List ℕ) → List ℕ
how_many word kind listing = word ++ decimal (of_kind kind listing)

-- the last line: how many lines have each kind
unfoldable pub counts : List (List ℕ) → List ℕ
counts listing =
    how_many are_same 0 listing ++ how_many are_elsewhere 1 listing ++ how_many are_different 2 listing
    ++ how_many are_in_the_first 3 listing ++ how_many are_in_the_second 4 listing ++ line_end

-- what is said of two sets, by their listing
abbrev pub said : List (List ℕ) → List ℕ
said listing = lines 1 listing ++ counts listing

-- first, a colon and a space
abbrev pub the_first : List ℕ
the_first = 102 ∷ 105 ∷ 114 ∷ 115 ∷ 116 ∷ 58 ∷ 32 ∷ []

-- second, a colon and a space
abbrev pub the_second : List ℕ
the_second = 115 ∷ 101 ∷ 99 ∷ 111 ∷ 110 ∷ 100 ∷ 58 ∷ 32 ∷ []

-- by the number of the first refusal of either file: that the first is refused, or else the second, or what is said of their sets
abbrev pub told : ℕ → ℕ → List (List ℕ) → List ℕ
told (suc r) s listing = the_first ++ refused ++ decimal (suc r) ++ line_end
told zero (suc s) listing = the_second ++ refused ++ decimal (suc s) ++ line_end
told zero zero listing = said listing

-- what is said of two files; what is refused of either is what the listing of a file refuses
unfoldable pub changes : List ℕ → List ℕ → List ℕ
changes f g = told (first_of (listing_refusals f)) (first_of (listing_refusals g)) (written (listed (job f) (job g)))
