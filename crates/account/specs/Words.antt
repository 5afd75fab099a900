-- What the program says of a file, in ASCII.
use Rattle.std.specs.Prelude.{true, false, List, [], ◌∷◌, ◌++◌, ℕ, zero, suc, ◌+◌, ◌/◌, eqb, length, get_or}
use Rattle.replies.specs.Ladder.{Rung, first_of}
use Rattle.rows.specs.Rows.{front}
use Rattle.setfile.specs.Format.{bad_head, come}
use Rattle.setfile.specs.Reading.{long}
use Rattle.salvage.specs.Outcome.{dropped_of, mended}
use Rattle.report.specs.Text.{decimal, line_end, refused}
use Rattle.account.specs.declared.Lengths.{Lengths}

-- contour, and a space
abbrev pub contour : List ℕ
contour = 99 ∷ 111 ∷ 110 ∷ 116 ∷ 111 ∷ 117 ∷ 114 ∷ 32 ∷ []

-- a space, dropped, a colon and a space
abbrev pub dropped_as : List ℕ
dropped_as = 32 ∷ 100 ∷ 114 ∷ 111 ∷ 112 ∷ 112 ∷ 101 ∷ 100 ∷ 58 ∷ 32 ∷ []

-- off the grid
abbrev pub off_the_grid : List ℕ
off_the_grid = 111 ∷ 102 ∷ 102 ∷ 32 ∷ 116 ∷ 104 ∷ 101 ∷ 32 ∷ 103 ∷ 114 ∷ 105 ∷ 100 ∷ []

-- no shape
abbrev pub no_shape : List ℕ
no_shape = 110 ∷ 111 ∷ 32 ∷ 115 ∷ 104 ∷ 97 ∷ 112 ∷ 101 ∷ []

-- never came, a colon and a space
abbrev pub never_came : List ℕ
never_came = 110 ∷ 101 ∷ 118 ∷ 101 ∷ 114 ∷ 32 ∷ 99 ∷ 97 ∷ 109 ∷ 101 ∷ 58 ∷ 32 ∷ []

-- bytes past the count, a colon and a space
abbrev pub past_the_count : List ℕ
past_the_count = 98 ∷ 121 ∷ 116 ∷ 101 ∷ 115 ∷ 32 ∷ 112 ∷ 97 ∷ 115 ∷ 116 ∷ 32 ∷ 116 ∷ 104 ∷ 101 ∷ 32 ∷ 99 ∷ 111 ∷ 117 ∷ 110 ∷ 116 ∷ 58 ∷ 32 ∷ []

-- why a contour is dropped
unfoldable pub why : ℕ → List ℕ
why r = elim (eqb r 3) [ true ↦ off_the_grid | false ↦ no_shape ]

-- the line of contour number k, which is dropped for this reason
unfoldable pub line : ℕ → ℕ → List ℕ
line k r = contour ++ decimal k ++ dropped_as ++ why r ++ line_end

-- the lines of a list of dropped contours, which are numbered from 1 here, and from 0 in the list
unfoldable pub lines : List (List ℕ) → List ℕ
lines [] = []
lines (row ∷ list) = line (get_or row 0 0 + 1) (get_or row 1 0) ++ lines list

-- how many never came, and how many bytes stand past the promised count
abbrev pub counts : ℕ → ℕ → List ℕ
counts missing past = never_came ++ decimal missing ++ line_end ++ (past_the_count ++ decimal past ++ line_end)

-- what is refused where there is room for any file: 2, 10 and 9
abbrev pub refusals : List ℕ → List Rung
refusals f = long (length f) ++ bad_head f

-- by the number of the first refusal: the file that is written, none where it is refused
abbrev pub saved_by : ℕ → List ℕ → List ℕ
saved_by (suc r) f = []
saved_by zero f = mended f

-- and the account of it: that it is refused, and by which number, or what was dropped and why, and the counts
abbrev pub account_by : ℕ → List ℕ → List ℕ
account_by (suc r) f = refused ++ decimal (suc r) ++ line_end
account_by zero f = lines (dropped_of f) ++ counts (come f).missing ((come f).past / 8)

unfoldable pub saved : List ℕ → List ℕ
saved f = saved_by (first_of (refusals f)) f

unfoldable pub account : List ℕ → List ℕ
account f = account_by (first_of (refusals f)) f

-- both lengths, and both rows as they are left
pub record Outcome : Type 0 where
  pub lengths : Lengths
  pub bytes : List ℕ
  pub text : List ℕ

abbrev pub leaving : Lengths → List ℕ → List ℕ → Outcome
leaving r bytes text = record { lengths = r; bytes = bytes; text = text }

-- the file in front of one row, and the account in front of the other
unfoldable pub outcome : List ℕ → List ℕ → List ℕ → Outcome
outcome f out text =
    leaving (record { bytes = length (saved f); text = length (account f) }) (front (saved f) out) (front (account f) text)
