-- A contour by its steps: each point but the first as two differences from the one before.
use Rattle.std.specs.Prelude.{List, [], ◌∷◌, ℤ, ◌+ℤ◌, ◌-ℤ◌}

-- the differences of the numbers that follow x and y: each from the one two before it
unfoldable pub steps : ℤ → ℤ → List ℤ → List ℤ
steps x y [] = []
steps x y (u ∷ l) = (u -ℤ x) ∷ steps y u l

-- the numbers that follow x and y by these differences
unfoldable pub sums : ℤ → ℤ → List ℤ → List ℤ
sums x y [] = []
sums x y (d ∷ l) = (x +ℤ d) ∷ sums y (x +ℤ d) l

-- the differences of a contour
abbrev pub differences : List ℤ → List ℤ
differences [] = []
differences (x ∷ []) = []
differences (x ∷ y ∷ l) = steps x y l

-- a contour by its first point and its differences
abbrev pub from_point : List ℤ → List ℤ → List ℤ
from_point [] ds = []
from_point (x ∷ []) ds = []
from_point (x ∷ y ∷ l) ds = x ∷ y ∷ sums x y ds
