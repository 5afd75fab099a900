-- The words in which the theorems say what a cleaning of shapes keeps.
use Rattle.std.specs.Prelude.{◌≡◌, ℕ, true, false, List, [], ◌∷◌, ℤ}
use Rattle.grid.specs.Points.{points}
use Rattle.grid.specs.Area.{exact}
use Rattle.grid.specs.Domain.{count, Contour}
use Rattle.ring.specs.declared.Rule.{Rule}
use Rattle.ring.specs.Walk.End.{kept, collapsed}
use Rattle.ring.specs.Promises.{Rising}
use Rattle.clean.specs.Outcome.{walked, chosen}
use Rattle.clean.specs.Verdicts.{passes}

-- contours of the domain
abbrev pub Contours : List (List ℤ) → Type 0
Contours [] = Unit {0}
Contours (c ∷ l) = Contour c (count c) × Contours l

-- shapes of such contours
abbrev pub AllContours : List (List (List ℤ)) → Type 0
AllContours [] = Unit {0}
AllContours (s ∷ l) = Contours s × AllContours l

module _ (rule : Rule) where
  -- a contour collapses: it fails its verdict, and its walk ends in a collapse
  pub record Collapses (c : List ℤ) : Type 0 where
    pub fails : passes rule (points c) ≡ false
    pub ends : (walked rule c).end ≡ collapsed

  -- the first contour of a shape collapses
  abbrev pub OutlineCollapses : List (List ℤ) → Type 0
  OutlineCollapses [] = ⊥
  OutlineCollapses (c ∷ l) = Collapses c

  -- a contour that does not collapse is kept as d: points of it in their old order, with its exact doubled area; all where it passes its verdict, and those that its walk keeps where it fails
  pub record KeptAs (c d : List ℤ) : Type 0 where
    pub stands : Collapses c → ⊥
    pub positions : List ℕ
    pub rising : Rising 0 (count c) positions
    pub is : d ≡ chosen c positions
    pub same_area : exact (points d) ≡ exact (points c)
    pub copied : passes rule (points c) ≡ true → d ≡ c
    pub cleaned : passes rule (points c) ≡ false → (walked rule c).end ≡ kept positions

  -- contours behind an outline, before and after a cleaning: each stays in its turn, or goes, which those do that collapse
  pub data LaterFollow : List (List ℤ) → List (List ℤ) → Type 0 where
    no_more : LaterFollow [] []
    stays : {c d : List ℤ} {l m : List (List ℤ)} → KeptAs c d → LaterFollow l m → LaterFollow (c ∷ l) (d ∷ m)
    goes : {c : List ℤ} {l m : List (List ℤ)} → Collapses c → LaterFollow l m → LaterFollow (c ∷ l) m

  -- a shape that stands, before and after: an empty one is empty, and the outline of another is kept as its outline
  pub data Follow : List (List ℤ) → List (List ℤ) → Type 0 where
    empty : Follow [] []
    outline : {c d : List ℤ} {l m : List (List ℤ)} → KeptAs c d → LaterFollow l m → Follow (c ∷ l) (d ∷ m)

  -- shapes, before and after: each stands in its turn, or falls, which those do whose outline collapses
  pub data ShapesFollow : List (List (List ℤ)) → List (List (List ℤ)) → Type 0 where
    no_shapes : ShapesFollow [] []
    stands : {s t : List (List ℤ)} {l m : List (List (List ℤ))} → Follow s t → ShapesFollow l m → ShapesFollow (s ∷ l) (t ∷ m)
    falls : {c : List ℤ} {s : List (List ℤ)} {l m : List (List (List ℤ))} → Collapses c → ShapesFollow l m → ShapesFollow ((c ∷ s) ∷ l) m
