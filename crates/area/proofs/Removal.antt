-- Removing a vertex changes the exact doubled area by the cross at it.
use Rattle.std.proofs.Common.{◌≡◌, ℕ, zero, suc, ◌-◌, ◌<◌, List, [], ◌∷◌, length, get_or, ℤ, pos, ◌+ℤ◌, refl, ap₂, arith}
use Rattle.integers.specs.Polynomial.{Po, #, num, ◌:+◌, ◌:-◌, ◌:*◌}
use Rattle.integers.proofs.Polynomial.{ring, ring_by}
use Rattle.grid.specs.declared.Point.{Point}
use Rattle.grid.specs.Points.{origin}
use Rattle.grid.specs.Edges.{from_origin, cross}
use Rattle.grid.specs.Corners.{cross_at, corner_in}
use Rattle.grid.specs.Neighbours.{leaving_out}
use Rattle.grid.specs.Area.{around, exact}
use Rattle.grid.proofs.AroundLaws.{corner}

abbrev :cross : Po → Po → Po → Po → Po
:cross ax ay bx by = ax :* by :- ay :* bx

-- what a pair of points adds to the area
abbrev pair : Point → Point → ℤ
pair a b = cross (from_origin a) (from_origin b)

-- the way from a to c by b, and the straight one
by_way : (a b c : Point) → pair a b +ℤ pair b c ≡ pair a c +ℤ cross_at (corner a b c)
unfolding cross
by_way a b c =
    ring
    (:cross (# 0) (# 1) (# 2) (# 3) :+ :cross (# 2) (# 3) (# 4) (# 5))
    (:cross (# 0) (# 1) (# 4) (# 5) :+ :cross (# 2 :- # 0) (# 3 :- # 1) (# 4 :- # 2) (# 5 :- # 3))
    (a.x ∷ a.y ∷ b.x ∷ b.y ∷ c.x ∷ c.y ∷ []) refl

-- a triangle may be read from any of its points
pub cross_turned : (a b c : Point) → cross_at (corner a b c) ≡ cross_at (corner b c a)
unfolding cross
cross_turned a b c =
    ring
    (:cross (# 2 :- # 0) (# 3 :- # 1) (# 4 :- # 2) (# 5 :- # 3))
    (:cross (# 4 :- # 2) (# 5 :- # 3) (# 0 :- # 4) (# 1 :- # 5))
    (a.x ∷ a.y ∷ b.x ∷ b.y ∷ c.x ∷ c.y ∷ []) refl

pub three_points : (a b c : Point) → exact (a ∷ b ∷ c ∷ []) ≡ cross_at (corner a b c)
unfolding exact around cross
three_points a b c =
    ring
    (:cross (# 0) (# 1) (# 2) (# 3) :+ (:cross (# 2) (# 3) (# 4) (# 5) :+ :cross (# 4) (# 5) (# 0) (# 1)))
    (:cross (# 2 :- # 0) (# 3 :- # 1) (# 4 :- # 2) (# 5 :- # 3))
    (a.x ∷ a.y ∷ b.x ∷ b.y ∷ c.x ∷ c.y ∷ []) refl

-- under three points there is no area
pub few_points : (l : List Point) → length l < 3 → exact l ≡ pos 0
unfolding exact around cross
few_points [] h = refl
few_points (a ∷ []) h = ring (:cross (# 0) (# 1) (# 0) (# 1)) (num (pos 0)) (a.x ∷ a.y ∷ []) refl
few_points (a ∷ b ∷ []) h = ring (:cross (# 0) (# 1) (# 2) (# 3) :+ :cross (# 2) (# 3) (# 0) (# 1)) (num (pos 0)) (a.x ∷ a.y ∷ b.x ∷ b.y ∷ []) refl
few_points (a ∷ b ∷ c ∷ l) h = absurd (omega arith)

-- on the way from a, number j of the points is left out
along_removed : (o a : Point) (s : List Point) (j : ℕ) → j < length s
    → around o a s ≡ around o a (leaving_out s j) +ℤ cross_at (corner (get_or (a ∷ s) j origin) (get_or s j origin) (get_or s (suc j) o))
unfolding around
along_removed o a [] j h = absurd (omega arith)
along_removed o a (b ∷ []) zero h = by_way a b o
along_removed o a (b ∷ d ∷ s) zero h =
    ring_by (# 0 :+ (# 1 :+ # 2)) ((# 3 :+ # 2) :+ # 4) (num (pos 1)) (# 0 :+ # 1) (# 3 :+ # 4)
    (pair a b ∷ pair b d ∷ around o d s ∷ pair a d ∷ cross_at (corner a b d) ∷ []) (by_way a b d) refl
along_removed o a (b ∷ s) (suc j) h =
    ring_by (# 0 :+ # 1) ((# 0 :+ # 2) :+ # 3) (num (pos 1)) (# 1) (# 2 :+ # 3)
    (pair a b ∷ around o b s ∷ around o b (leaving_out s j) ∷ cross_at (corner (get_or (b ∷ s) j origin) (get_or s j origin) (get_or s (suc j) o)) ∷ [])
    (along_removed o b s j (omega arith)) refl

-- the way back goes to another point
back_to : (o p a : Point) (s : List Point) → around o a s +ℤ pair (get_or (a ∷ s) (length s) origin) p ≡ around p a s +ℤ pair (get_or (a ∷ s) (length s) origin) o
unfolding around
back_to o p a [] = ring (# 0 :+ # 1) (# 1 :+ # 0) (pair a o ∷ pair a p ∷ []) refl
back_to o p a (b ∷ s) =
    let l : Point = get_or (b ∷ s) (length s) origin in
    ring_by ((# 0 :+ # 1) :+ # 2) ((# 0 :+ # 3) :+ # 4) (num (pos 1)) (# 1 :+ # 2) (# 3 :+ # 4)
    (pair a b ∷ around o b s ∷ pair l p ∷ around p b s ∷ pair l o ∷ []) (back_to o p b s) refl

first_removed : (o b : Point) (s : List Point) → exact (o ∷ b ∷ s) ≡ exact (b ∷ s) +ℤ cross_at (corner (get_or (b ∷ s) (length s) origin) o b)
unfolding exact around
first_removed o b s =
    let l : Point = get_or (b ∷ s) (length s) origin in
    ring_by (# 0 :+ # 1) (# 2 :+ # 3) (num (pos 1)) ((# 1 :+ # 4) :+ (# 5 :+ # 0)) ((# 2 :+ # 5) :+ (# 4 :+ # 3))
    (pair o b ∷ around o b s ∷ around b b s ∷ cross_at (corner l o b) ∷ pair l b ∷ pair l o ∷ [])
    (ap₂ ◌+ℤ◌ (back_to o b b s) (by_way l o b)) refl

-- whichever vertex goes, the first and the last too
pub removed : (points : List Point) (j : ℕ) → j < length points → 1 < length points
    → exact points ≡ exact (leaving_out points j) +ℤ cross_at (corner_in points j)
unfolding exact
removed [] j h k = absurd (omega arith)
removed (o ∷ []) j h k = absurd (omega arith)
removed (o ∷ b ∷ s) zero h k =
    let e : suc (suc (length s)) - 1 ≡ suc (length s) = omega arith in
    rw e (first_removed o b s)
removed (o ∷ b ∷ s) (suc j) h k = along_removed o o (b ∷ s) j (omega arith)
