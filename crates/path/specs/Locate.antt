-- Where a point lies: outside a contour, on its boundary or inside.
use Rattle.std.specs.Prelude.{Bool, true, false, ◌&&◌, ◌||◌, Result, Ok, Err, List, [], ◌∷◌, ℕ, zero, suc, ℤ}
use Rattle.std.specs.Int.Signed.{le_z}
use Rattle.grid.specs.declared.Point.{Point}
use Rattle.grid.specs.Points.{same, points}
use Rattle.grid.specs.Edges.{between, aligned}
use Rattle.grid.specs.Corners.{last}
use Rattle.replies.specs.declared.refusal.Refusal.{Refusal}
use Rattle.replies.specs.Ladder.{first_of}
use Rattle.replies.specs.Refusals.{number}
use Rattle.path.specs.declared.Located.{Located}
use Rattle.path.specs.Contains.{contained, refusals}

-- z lies from a to b, both included, whichever is the smaller
abbrev pub amid : ℤ → ℤ → ℤ → Bool
amid a b z = (le_z a z && le_z z b) || (le_z b z && le_z z a)

-- p lies on the closed edge a-b: it is a, or it is b, or it lies on their line, between them
unfoldable pub on_edge : Point → Point → Point → Bool
on_edge p a b = same p a || (same p b || (aligned (between a b) (between a p) && (amid a.x b.x p.x && amid a.y b.y p.y)))

-- p lies on some edge from a along the points
unfoldable pub touched : Point → Point → List Point → Bool
touched p a [] = false
touched p a (b ∷ l) = on_edge p a b || touched p b l

-- p lies on some edge of a closed contour; the empty contour has no boundary
unfoldable pub on_boundary : Point → List Point → Bool
on_boundary p [] = false
on_boundary p (o ∷ l) = touched p (last o l) (o ∷ l)

-- the three places: 1 on the boundary, which is asked first; 2 inside, by the parity of the edges; 0 outside
unfoldable pub location : Point → List Point → ℕ
location p c = elim (on_boundary p c) [ true ↦ 1 | false ↦ elim (contained p c) [ true ↦ 2 | false ↦ 0 ] ]

-- a refusal's number and 0, or 0 and the place
abbrev pub answer : ℕ → ℕ → Located
answer zero k = record { reply = 0; place = k }
answer (suc r) k = record { reply = suc r; place = 0 }

-- a place or its refusal, as C has it
abbrev pub answered : Result ℕ Refusal → Located
answered (Ok k) = record { reply = 0; place = k }
answered (Err r) = record { reply = number r; place = 0 }

-- the answer
unfoldable pub located : List ℤ → ℤ → ℤ → Located
located row x y =
    let p : Point = record { x = x; y = y } in
    answer (first_of (refusals p row)) (location p (points row))
