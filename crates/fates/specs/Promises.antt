-- The words in which the theorems say that the fates are those that a cleaning follows.
use Rattle.std.specs.Prelude.{List, [], ◌∷◌, ℕ, zero, suc, ℤ}
use Rattle.ring.specs.declared.Rule.{Rule}
use Rattle.sets.specs.Fates.{Fate, fate}
use Rattle.sets.specs.Fates.Fate.{stays, gone}

-- what a cleaning leaves of a contour
abbrev pub left : Fate → List ℤ
left (stays d t) = d
left (gone t) = []

abbrev pub cleaned : Rule → List ℤ → List ℤ
cleaned rule c = left (fate rule c)

-- the contours that are told as kept, in their order
unfoldable pub those_kept : List ℕ → List (List ℤ) → List (List ℤ)
those_kept [] l = []
those_kept (zero ∷ fs) [] = []
those_kept (zero ∷ fs) (c ∷ l) = c ∷ those_kept fs l
those_kept (suc k ∷ fs) [] = []
those_kept (suc k ∷ fs) (c ∷ l) = those_kept fs l
