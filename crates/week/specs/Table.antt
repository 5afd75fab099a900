-- The table of a week's figures, as text.
use mathlib.Core.Bool.{Bool, true, false}
use mathlib.Core.List.{List, [], ◌∷◌, ◌++◌}
use Prim.Native.Nat.{ℕ, suc, ◌/◌, ◌^◌}
use lib.Dec.{ltb}
use lib.ListN.{get_or}
use lib.IntN.{ℤ}
use lib.IntN.ℤ.{pos, negsuc}
use Rattle.io.specs.Digits.{last_digits}
use Rattle.report.specs.Text.{decimal, dash, line_end}
use Rattle.buffer.specs.Sets.{joined}
use Rattle.figures.specs.declared.answer.Figures.{Figures}
use Rattle.figures.specs.Joining.{area_sum}
use Rattle.week.specs.Words.{kept, collapsed, too_much, another_edition, wrong_length, no_shape, off_the_grid, no_room, wrong_width, fill_bits, points_before, points_after, decisions_made, area_kept, files_counted, no_more, not_told}
use Rattle.week.specs.declared.answer.Week.{Week}

-- by whether it has at most eight digits: a number, or what stands before its last eight digits, and these
abbrev pub digits_by : Bool → ℕ → List ℕ
digits_by true n = decimal n
digits_by false n = decimal (n / 10 ^ 8) ++ last_digits 10 8 n

-- a number of at most 28 digits in decimal
abbrev pub long_decimal : ℕ → List ℕ
long_decimal n = digits_by (ltb n (10 ^ 8)) n

-- with its sign, if it is below zero
abbrev pub long_signed : ℤ → List ℕ
long_signed (pos n) = long_decimal n
long_signed (negsuc n) = dash ++ long_decimal (suc n)

-- a word, a number and the end of the line
abbrev pub line : List ℕ → ℕ → List ℕ
line word n = word ++ decimal n ++ line_end

-- a word, and how many contours or files have this reply
abbrev pub told : List ℕ → List ℕ → ℕ → List ℕ
told word totals reply = line word (get_or totals reply 0)

-- what became of the contours
abbrev pub contour_lines : List ℕ → List (List ℕ)
contour_lines totals = told kept totals 0 ∷ told collapsed totals 7 ∷ []

-- files whose contours cannot be told
abbrev pub unread_lines : List ℕ → List (List ℕ)
unread_lines totals = told too_much totals 2 ∷ told another_edition totals 9 ∷ told wrong_length totals 10 ∷ told no_shape totals 11 ∷ []

-- files that are refused by what they carry
abbrev pub refused_lines : List ℕ → List (List ℕ)
refused_lines totals = told off_the_grid totals 3 ∷ told no_room totals 5 ∷ told wrong_width totals 15 ∷ told fill_bits totals 16 ∷ []

-- the sums
abbrev pub sum_lines : Figures → List (List ℕ)
sum_lines f = line points_before f.before ∷ line points_after f.after ∷ line decisions_made f.decisions ∷ (area_kept ++ long_signed (area_sum f) ++ line_end) ∷ []

-- the table: each reply that a contour or a file can have, with its meaning, and the sums
unfoldable pub table : Figures → List ℕ
table f = joined (joined (contour_lines f.totals) ∷ joined (unread_lines f.totals) ∷ joined (refused_lines f.totals) ∷ joined (sum_lines f) ∷ [])

-- a word, if this is so
abbrev pub if_so : Bool → List ℕ → List ℕ
if_so true word = word
if_so false word = []

-- what is said of a week: the table, how many files were counted, and why no more were
unfoldable pub said : Week → List ℕ
said w = joined (table w.figures ∷ line files_counted w.files ∷ if_so w.full no_more ∷ if_so w.untold not_told ∷ [])
