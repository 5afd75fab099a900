-- What becomes of a contour, of a shape and of shapes when they are cleaned by a rule.
use Rattle.std.specs.Prelude.{◌+◌, true, false, List, [], ◌∷◌, ℤ}
use Rattle.grid.specs.Points.{points}
use Rattle.ring.specs.declared.Rule.{Rule}
use Rattle.ring.specs.Walk.{Tally, End, tally}
use Rattle.ring.specs.Walk.End.{kept, collapsed}
use Rattle.clean.specs.Outcome.{chosen, walked}
use Rattle.clean.specs.Verdicts.{passes}

-- nothing was walked
abbrev pub none_counted : Tally
none_counted = tally 0 0

-- what two walks count together
abbrev pub together : Tally → Tally → Tally
together t u = tally (t.decisions + u.decisions) (t.turns + u.turns)

-- a contour stays, as these numbers, or is gone; with what its walk counted
pub data Fate : Type 0 where
  stays : List ℤ → Tally → Fate
  gone : Tally → Fate

-- the end of a walk, as a fate
abbrev pub walk_fate : List ℤ → End → Tally → Fate
walk_fate c (kept s) t = stays (chosen c s) t
walk_fate c collapsed t = gone t

-- a contour that already passes its verdict is copied, with 0 decisions and 0 turns; another is walked
unfoldable pub fate : Rule → List ℤ → Fate
fate rule c = elim (passes rule (points c)) [ true ↦ stays c none_counted | false ↦ walk_fate c (walked rule c).end (walked rule c).tally ]

-- contours that stay, and what all walks counted
pub record Stay : Type 0 where
  pub contours : List (List ℤ)
  pub tally : Tally

-- one contour's fate in front of the others'
abbrev pub and_later : Fate → Stay → Stay
and_later (stays d t) l = record { contours = d ∷ l.contours; tally = together t l.tally }
and_later (gone t) l = record { contours = l.contours; tally = together t l.tally }

-- later contours of a shape: collapsed ones are dropped
unfoldable pub later : Rule → List (List ℤ) → Stay
later rule [] = record { contours = []; tally = none_counted }
later rule (c ∷ l) = and_later (fate rule c) (later rule l)

-- a shape stands with the contours that stay, or has fallen with its first; with what the walks counted
pub data ShapeFate : Type 0 where
  stands : List (List ℤ) → Tally → ShapeFate
  fallen : Tally → ShapeFate

-- the fate of a shape with a first contour: the contours after a collapsed one are not walked
abbrev pub behind : Fate → Stay → ShapeFate
behind (stays d t) l = stands (d ∷ l.contours) (together t l.tally)
behind (gone t) l = fallen t

-- an empty shape stays; another stands or falls with its first contour
unfoldable pub shape_fate : Rule → List (List ℤ) → ShapeFate
shape_fate rule [] = stands [] none_counted
shape_fate rule (c ∷ l) = behind (fate rule c) (later rule l)

-- shapes that stay, and what all walks counted
pub record Shapes : Type 0 where
  pub shapes : List (List (List ℤ))
  pub tally : Tally

-- one shape's fate in front of the others'
abbrev pub and_others : ShapeFate → Shapes → Shapes
and_others (stands s t) l = record { shapes = s ∷ l.shapes; tally = together t l.tally }
and_others (fallen t) l = record { shapes = l.shapes; tally = together t l.tally }

-- shapes: fallen ones are dropped, empty ones stay
unfoldable pub shapes_fate : Rule → List (List (List ℤ)) → Shapes
shapes_fate rule [] = record { shapes = []; tally = none_counted }
shapes_fate rule (s ∷ l) = and_others (shape_fate rule s) (shapes_fate rule l)
