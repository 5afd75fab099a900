-- The words of the table, in ASCII.
use mathlib.Core.List.{List, [], ◌∷◌}
use Prim.Native.Nat.{ℕ}

-- contours kept:
abbrev pub kept : List ℕ
kept = 99 ∷ 111 ∷ 110 ∷ 116 ∷ 111 ∷ 117 ∷ 114 ∷ 115 ∷ 32 ∷ 107 ∷ 101 ∷ 112 ∷ 116 ∷ 58 ∷ 32 ∷ []

-- contours collapsed:
abbrev pub collapsed : List ℕ
collapsed = 99 ∷ 111 ∷ 110 ∷ 116 ∷ 111 ∷ 117 ∷ 114 ∷ 115 ∷ 32 ∷ 99 ∷ 111 ∷ 108 ∷ 108 ∷ 97 ∷ 112 ∷ 115 ∷ 101 ∷ 100 ∷ 58 ∷ 32 ∷ []

-- files over 65,536 bytes or points (2):
abbrev pub too_much : List ℕ
too_much =
    102 ∷ 105 ∷ 108 ∷ 101 ∷ 115 ∷ 32 ∷ 111 ∷ 118 ∷ 101 ∷ 114 ∷ 32 ∷ 54 ∷ 53 ∷ 44 ∷ 53 ∷ 51 ∷ 54 ∷ 32 ∷ 98 ∷ 121 ∷ 116 ∷ 101 ∷ 115 ∷ 32
    ∷ 111 ∷ 114 ∷ 32 ∷ 112 ∷ 111 ∷ 105 ∷ 110 ∷ 116 ∷ 115 ∷ 32 ∷ 40 ∷ 50 ∷ 41 ∷ 58 ∷ 32 ∷ []

-- files of another edition (9):
abbrev pub another_edition : List ℕ
another_edition =
    102 ∷ 105 ∷ 108 ∷ 101 ∷ 115 ∷ 32 ∷ 111 ∷ 102 ∷ 32 ∷ 97 ∷ 110 ∷ 111 ∷ 116 ∷ 104 ∷ 101 ∷ 114 ∷ 32 ∷ 101 ∷ 100 ∷ 105 ∷ 116 ∷ 105 ∷ 111 ∷ 110 ∷ 32
    ∷ 40 ∷ 57 ∷ 41 ∷ 58 ∷ 32 ∷ []

-- files cut off or with bytes left over (10):
abbrev pub wrong_length : List ℕ
wrong_length =
    102 ∷ 105 ∷ 108 ∷ 101 ∷ 115 ∷ 32 ∷ 99 ∷ 117 ∷ 116 ∷ 32 ∷ 111 ∷ 102 ∷ 102 ∷ 32 ∷ 111 ∷ 114 ∷ 32 ∷ 119 ∷ 105 ∷ 116 ∷ 104 ∷ 32
    ∷ 98 ∷ 121 ∷ 116 ∷ 101 ∷ 115 ∷ 32 ∷ 108 ∷ 101 ∷ 102 ∷ 116 ∷ 32 ∷ 111 ∷ 118 ∷ 101 ∷ 114 ∷ 32 ∷ 40 ∷ 49 ∷ 48 ∷ 41 ∷ 58 ∷ 32 ∷ []

-- files whose first contour begins no shape (11):
abbrev pub no_shape : List ℕ
no_shape =
    102 ∷ 105 ∷ 108 ∷ 101 ∷ 115 ∷ 32 ∷ 119 ∷ 104 ∷ 111 ∷ 115 ∷ 101 ∷ 32 ∷ 102 ∷ 105 ∷ 114 ∷ 115 ∷ 116 ∷ 32 ∷ 99 ∷ 111 ∷ 110 ∷ 116 ∷ 111 ∷ 117 ∷ 114 ∷ 32
    ∷ 98 ∷ 101 ∷ 103 ∷ 105 ∷ 110 ∷ 115 ∷ 32 ∷ 110 ∷ 111 ∷ 32 ∷ 115 ∷ 104 ∷ 97 ∷ 112 ∷ 101 ∷ 32 ∷ 40 ∷ 49 ∷ 49 ∷ 41 ∷ 58 ∷ 32 ∷ []

-- files with a place off the grid (3):
abbrev pub off_the_grid : List ℕ
off_the_grid =
    102 ∷ 105 ∷ 108 ∷ 101 ∷ 115 ∷ 32 ∷ 119 ∷ 105 ∷ 116 ∷ 104 ∷ 32 ∷ 97 ∷ 32 ∷ 112 ∷ 108 ∷ 97 ∷ 99 ∷ 101 ∷ 32
    ∷ 111 ∷ 102 ∷ 102 ∷ 32 ∷ 116 ∷ 104 ∷ 101 ∷ 32 ∷ 103 ∷ 114 ∷ 105 ∷ 100 ∷ 32 ∷ 40 ∷ 51 ∷ 41 ∷ 58 ∷ 32 ∷ []

-- files over 8,192 points (5):
abbrev pub no_room : List ℕ
no_room =
    102 ∷ 105 ∷ 108 ∷ 101 ∷ 115 ∷ 32 ∷ 111 ∷ 118 ∷ 101 ∷ 114 ∷ 32 ∷ 56 ∷ 44 ∷ 49 ∷ 57 ∷ 50 ∷ 32 ∷ 112 ∷ 111 ∷ 105 ∷ 110 ∷ 116 ∷ 115 ∷ 32
    ∷ 40 ∷ 53 ∷ 41 ∷ 58 ∷ 32 ∷ []

-- files with a width that is not the smallest (15):
abbrev pub wrong_width : List ℕ
wrong_width =
    102 ∷ 105 ∷ 108 ∷ 101 ∷ 115 ∷ 32 ∷ 119 ∷ 105 ∷ 116 ∷ 104 ∷ 32 ∷ 97 ∷ 32 ∷ 119 ∷ 105 ∷ 100 ∷ 116 ∷ 104 ∷ 32
    ∷ 116 ∷ 104 ∷ 97 ∷ 116 ∷ 32 ∷ 105 ∷ 115 ∷ 32 ∷ 110 ∷ 111 ∷ 116 ∷ 32 ∷ 116 ∷ 104 ∷ 101 ∷ 32 ∷ 115 ∷ 109 ∷ 97 ∷ 108 ∷ 108 ∷ 101 ∷ 115 ∷ 116 ∷ 32
    ∷ 40 ∷ 49 ∷ 53 ∷ 41 ∷ 58 ∷ 32 ∷ []

-- files with a fill bit that is set (16):
abbrev pub fill_bits : List ℕ
fill_bits =
    102 ∷ 105 ∷ 108 ∷ 101 ∷ 115 ∷ 32 ∷ 119 ∷ 105 ∷ 116 ∷ 104 ∷ 32 ∷ 97 ∷ 32 ∷ 102 ∷ 105 ∷ 108 ∷ 108 ∷ 32 ∷ 98 ∷ 105 ∷ 116 ∷ 32
    ∷ 116 ∷ 104 ∷ 97 ∷ 116 ∷ 32 ∷ 105 ∷ 115 ∷ 32 ∷ 115 ∷ 101 ∷ 116 ∷ 32 ∷ 40 ∷ 49 ∷ 54 ∷ 41 ∷ 58 ∷ 32 ∷ []

-- points before:
abbrev pub points_before : List ℕ
points_before = 112 ∷ 111 ∷ 105 ∷ 110 ∷ 116 ∷ 115 ∷ 32 ∷ 98 ∷ 101 ∷ 102 ∷ 111 ∷ 114 ∷ 101 ∷ 58 ∷ 32 ∷ []

-- points after:
abbrev pub points_after : List ℕ
points_after = 112 ∷ 111 ∷ 105 ∷ 110 ∷ 116 ∷ 115 ∷ 32 ∷ 97 ∷ 102 ∷ 116 ∷ 101 ∷ 114 ∷ 58 ∷ 32 ∷ []

-- decisions:
abbrev pub decisions_made : List ℕ
decisions_made = 100 ∷ 101 ∷ 99 ∷ 105 ∷ 115 ∷ 105 ∷ 111 ∷ 110 ∷ 115 ∷ 58 ∷ 32 ∷ []

-- doubled area kept:
abbrev pub area_kept : List ℕ
area_kept = 100 ∷ 111 ∷ 117 ∷ 98 ∷ 108 ∷ 101 ∷ 100 ∷ 32 ∷ 97 ∷ 114 ∷ 101 ∷ 97 ∷ 32 ∷ 107 ∷ 101 ∷ 112 ∷ 116 ∷ 58 ∷ 32 ∷ []

-- files counted:
abbrev pub files_counted : List ℕ
files_counted = 102 ∷ 105 ∷ 108 ∷ 101 ∷ 115 ∷ 32 ∷ 99 ∷ 111 ∷ 117 ∷ 110 ∷ 116 ∷ 101 ∷ 100 ∷ 58 ∷ 32 ∷ []

-- no more were counted: 65,535 contours and refused files are the most (21), and the end of the line
abbrev pub no_more : List ℕ
no_more =
    110 ∷ 111 ∷ 32 ∷ 109 ∷ 111 ∷ 114 ∷ 101 ∷ 32 ∷ 119 ∷ 101 ∷ 114 ∷ 101 ∷ 32 ∷ 99 ∷ 111 ∷ 117 ∷ 110 ∷ 116 ∷ 101 ∷ 100 ∷ 58 ∷ 32 ∷ 54 ∷ 53
    ∷ 44 ∷ 53 ∷ 51 ∷ 53 ∷ 32 ∷ 99 ∷ 111 ∷ 110 ∷ 116 ∷ 111 ∷ 117 ∷ 114 ∷ 115 ∷ 32 ∷ 97 ∷ 110 ∷ 100 ∷ 32 ∷ 114 ∷ 101 ∷ 102 ∷ 117 ∷ 115 ∷ 101
    ∷ 100 ∷ 32 ∷ 102 ∷ 105 ∷ 108 ∷ 101 ∷ 115 ∷ 32 ∷ 97 ∷ 114 ∷ 101 ∷ 32 ∷ 116 ∷ 104 ∷ 101 ∷ 32 ∷ 109 ∷ 111 ∷ 115 ∷ 116 ∷ 32 ∷ 40 ∷ 50 ∷ 49
    ∷ 41 ∷ 10 ∷ []

-- where the last file ends is not told, so it was taken to be all that was left, and the end of the line
abbrev pub not_told : List ℕ
not_told =
    119 ∷ 104 ∷ 101 ∷ 114 ∷ 101 ∷ 32 ∷ 116 ∷ 104 ∷ 101 ∷ 32 ∷ 108 ∷ 97 ∷ 115 ∷ 116 ∷ 32 ∷ 102 ∷ 105 ∷ 108 ∷ 101 ∷ 32 ∷ 101 ∷ 110 ∷ 100 ∷ 115
    ∷ 32 ∷ 105 ∷ 115 ∷ 32 ∷ 110 ∷ 111 ∷ 116 ∷ 32 ∷ 116 ∷ 111 ∷ 108 ∷ 100 ∷ 44 ∷ 32 ∷ 115 ∷ 111 ∷ 32 ∷ 105 ∷ 116 ∷ 32 ∷ 119 ∷ 97 ∷ 115 ∷ 32
    ∷ 116 ∷ 97 ∷ 107 ∷ 101 ∷ 110 ∷ 32 ∷ 116 ∷ 111 ∷ 32 ∷ 98 ∷ 101 ∷ 32 ∷ 97 ∷ 108 ∷ 108 ∷ 32 ∷ 116 ∷ 104 ∷ 97 ∷ 116 ∷ 32 ∷ 119 ∷ 97 ∷ 115
    ∷ 32 ∷ 108 ∷ 101 ∷ 102 ∷ 116 ∷ 10 ∷ []
