-- The contours of the scope's cases W1 to W12; W5 is W4 again.
use Rattle.std.specs.Prelude.{ℕ, List, [], ◌∷◌, ℤ, pos, negsuc}

-- a row of numbers, none below 0
abbrev pub row : List ℕ → List ℤ
row [] = []
row (n ∷ l) = pos n ∷ row l

abbrev pub W1 : List ℤ
W1 = []

abbrev pub W2 : List ℤ
W2 = row (0 ∷ 0 ∷ 1 ∷ 0 ∷ 2 ∷ 0 ∷ [])

abbrev pub W3 : List ℤ
W3 = row (0 ∷ 0 ∷ 4 ∷ 0 ∷ 0 ∷ 4 ∷ [])

abbrev pub W4 : List ℤ
W4 = row (0 ∷ 0 ∷ 2 ∷ 0 ∷ 4 ∷ 0 ∷ 4 ∷ 4 ∷ 0 ∷ 4 ∷ [])

abbrev pub W6 : List ℤ
W6 = row (0 ∷ 0 ∷ 4 ∷ 0 ∷ 4 ∷ 4 ∷ 4 ∷ 8 ∷ 4 ∷ 4 ∷ 0 ∷ 4 ∷ [])

abbrev pub W7 : List ℤ
W7 = row (0 ∷ 0 ∷ 0 ∷ 0 ∷ 4 ∷ 0 ∷ 0 ∷ 4 ∷ [])

-- a pentagram
abbrev pub W8 : List ℤ
W8 = pos 0 ∷ pos 10 ∷ pos 6 ∷ negsuc 7 ∷ negsuc 9 ∷ pos 3 ∷ pos 10 ∷ pos 3 ∷ negsuc 5 ∷ negsuc 7 ∷ []

abbrev pub W9 : List ℤ
W9 = row (0 ∷ 0 ∷ 4 ∷ 0 ∷ 4 ∷ 4 ∷ 0 ∷ 4 ∷ [])

abbrev pub W10 : List ℤ
W10 = row (0 ∷ 0 ∷ 4 ∷ 4 ∷ 4 ∷ 0 ∷ 0 ∷ 4 ∷ [])

abbrev pub W11 : List ℤ
W11 = row (0 ∷ 0 ∷ 0 ∷ 1 ∷ 1 ∷ 0 ∷ [])

abbrev pub W12 : List ℤ
W12 = row (0 ∷ 0 ∷ 4 ∷ 0 ∷ 4 ∷ 0 ∷ [])
