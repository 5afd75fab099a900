-- A box is convex.
use mathlib.Core.Path.{◌≡◌, refl, sym, ◌∙◌, ap}
use mathlib.Core.Bool.{Bool, true, false, ◌&&◌, ◌||◌}
use mathlib.Core.List.{List, [], ◌∷◌}
use Prim.Native.Nat.{ℕ, zero, suc}
use native.Mathlib.Omega.{arith}
use lib.IntN.{ℤ, pos, negsuc}
use Rattle.integers.specs.Equal.{eq_z}
use Rattle.grid.specs.declared.Point.{Point}
use Rattle.grid.specs.Points.{at, points}
use Rattle.grid.specs.Edges.{sign}
use Rattle.grid.specs.Boxes.{box}
use Rattle.grid.specs.Corners.{last, differing, distinct_neighbours, corners_from, corners, some}
use Rattle.grid.specs.Domain.{Contour}
use Rattle.grid.proofs.RowLaws.{points_more, points_done}
use Rattle.grid.proofs.EdgeLaws.{moving, same_before}
use Rattle.grid.proofs.CornerLaws.{differing_keep}
use Rattle.grid.proofs.BoxLaws.{ab, bc, cd, da, box_four, box_cross, box_turns}
use Rattle.path.specs.Convex.{one_way, convex_distinct, is_convex}

-- a turn is not to both sides
one_side : (k : ℤ) → (eq_z (sign k) (pos 1) && eq_z (sign k) (negsuc 0)) ≡ false
one_side (pos zero) = refl
one_side (pos (suc n)) = refl
one_side (negsuc n) = refl

four_times : (t : Bool) → (t || (t || (t || (t || false)))) ≡ t
four_times true = refl
four_times false = refl

module _ (row : List ℤ) where
  abbrev four : List Point
  four = at row 0 ∷ at row 1 ∷ at row 2 ∷ at row 3 ∷ []

  points_four : Contour row 4 → points row ≡ four
  points_four c =
      points_more c 0 (omega arith)
      ∙ ap (λ (l : List Point). at row 0 ∷ l) (points_more c 1 (omega arith)
      ∙ ap (λ (l : List Point). at row 1 ∷ l) (points_more c 2 (omega arith)
      ∙ ap (λ (l : List Point). at row 2 ∷ l) (points_more c 3 (omega arith)
      ∙ ap (λ (l : List Point). at row 3 ∷ l) (points_done c 4 refl))))

  module _ (e : box row ≡ true) where
    -- no two neighbours are equal
    apart : distinct_neighbours four ≡ four
    unfolding distinct_neighbours last differing
    apart =
        let t = box_turns row e in
        differing_keep (at row 3) (at row 0) (at row 1 ∷ at row 2 ∷ at row 3 ∷ []) (same_before (at row 3) (at row 0) ∙ moving (cd row) (da row) t.2)
        ∙ ap (λ (l : List Point). at row 0 ∷ l) (differing_keep (at row 0) (at row 1) (at row 2 ∷ at row 3 ∷ []) (same_before (at row 0) (at row 1) ∙ moving (da row) (ab row) t.3)
        ∙ ap (λ (l : List Point). at row 1 ∷ l) (differing_keep (at row 1) (at row 2) (at row 3 ∷ []) (same_before (at row 1) (at row 2) ∙ moving (ab row) (bc row) t.0)
        ∙ ap (λ (l : List Point). at row 2 ∷ l) (differing_keep (at row 2) (at row 3) [] (same_before (at row 2) (at row 3) ∙ moving (bc row) (cd row) t.1))))

    -- all corners turn one way
    turning : one_way (corners four) ≡ true
    unfolding corners corners_from some last
    turning =
        let t = box_turns row e in
        let x = box_cross row e in
        rw (t.0, t.1, t.2, t.3, x.first, x.second, x.third, x.fourth, four_times (eq_z (sign x.k) (pos 1)), four_times (eq_z (sign x.k) (negsuc 0)), one_side x.k)

    pub box_convex : {n : ℕ} → Contour row n → true ≡ is_convex (points row)
    unfolding is_convex convex_distinct
    box_convex c = sym (rw (points_four (rw (box_four row c e) at c), apart, turning))
