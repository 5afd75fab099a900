-- What becomes of each contour when shapes are cleaned by a rule, as the number that tells it.
use Rattle.std.specs.Prelude.{List, [], ◌∷◌, ◌++◌, map, ℕ, zero, suc, ℤ}
use Rattle.ring.specs.declared.Rule.{Rule}
use Rattle.sets.specs.Fates.{Fate, fate}
use Rattle.sets.specs.Fates.Fate.{stays, gone}

-- the contour is kept
abbrev pub kept : ℕ
kept = 0

-- it collapsed
abbrev pub collapsed : ℕ
collapsed = 1

-- it stands behind a collapsed outline, and is not walked
abbrev pub behind : ℕ
behind = 2

-- a contour that is cleaned: it stays, or is gone
abbrev pub told : Fate → ℕ
told (stays d t) = kept
told (gone t) = collapsed

-- a later contour of a shape, by what became of the outline: kept, and the contour is cleaned, or not
abbrev pub later : Rule → ℕ → List ℤ → ℕ
later rule zero c = told (fate rule c)
later rule (suc k) c = behind

-- the contours of a shape: its outline, which is the first, and the later ones
unfoldable pub shape_fates : Rule → List (List ℤ) → List ℕ
shape_fates rule [] = []
shape_fates rule (c ∷ l) = told (fate rule c) ∷ map (later rule (told (fate rule c))) l

-- the contours of shapes, shape after shape
unfoldable pub fates : Rule → List (List (List ℤ)) → List ℕ
fates rule [] = []
fates rule (s ∷ l) = shape_fates rule s ++ fates rule l
