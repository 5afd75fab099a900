-- Whether a contour contains a point.
use Rattle.std.specs.Prelude.{Bool, true, false, not, ◌&&◌, List, [], ◌∷◌, ◌++◌, ℤ, ◌-ℤ◌, ◌*ℤ◌}
use Rattle.std.specs.Bool.{xor}
use Rattle.std.specs.Int.Signed.{lt_z}
use Rattle.grid.specs.Limits.{limit}
use Rattle.grid.specs.declared.Point.{Point}
use Rattle.replies.specs.declared.Verdict.{Verdict}
use Rattle.grid.specs.Points.{on, points}
use Rattle.grid.specs.Corners.{last}
use Rattle.replies.specs.Ladder.{Rung, first_of}
use Rattle.grid.specs.Domain.{domain}
use Rattle.replies.specs.Verdicts.{verdict}

-- a lies above p's horizontal
abbrev pub above : Point → Point → Bool
above p a = lt_z p.y a.y

-- the edge from l up to h meets p's horizontal strictly to the right of p:
-- p.x < l.x + (p.y - l.y)·(h.x - l.x)/(h.y - l.y), multiplied by h.y - l.y, which is above 0
abbrev pub meets_right : Point → Point → Point → Bool
meets_right p l h = lt_z ((p.x -ℤ l.x) *ℤ (h.y -ℤ l.y)) ((p.y -ℤ l.y) *ℤ (h.x -ℤ l.x))

-- the edge a-b counts: one end lies above p's horizontal and one does not, and it is met to the right
unfoldable pub crosses : Point → Point → Point → Bool
crosses p a b = xor (above p a) (above p b) && elim (lt_z a.y b.y) [ true ↦ meets_right p a b | false ↦ meets_right p b a ]

-- whether an odd number of the edges from a along the points counts
unfoldable pub odd : Point → Point → List Point → Bool
odd p a [] = false
odd p a (b ∷ l) = xor (crosses p a b) (odd p b l)

-- the parity of a closed contour's edges; the empty contour contains nothing
unfoldable pub contained : Point → List Point → Bool
contained p [] = false
contained p (o ∷ l) = odd p (last o l) (o ∷ l)

-- the refusals: 3 also for an asked point off the grid
abbrev pub refusals : Point → List ℤ → List Rung
refusals p row = domain limit row ++ (not (on limit p), 3) ∷ []

-- the answer
unfoldable pub contains : List ℤ → ℤ → ℤ → Verdict
contains row x y =
    let p : Point = record { x = x; y = y } in
    verdict (first_of (refusals p row)) (contained p (points row))
