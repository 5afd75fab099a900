-- Laws of boxes: how few tests tell one, and that all its corners have one cross, which is not 0.
use Rattle.std.proofs.Common.{◌≡◌, ℕ, zero, suc, Bool, true, false, not, ◌&&◌, eqb, List, [], ◌∷◌, ℤ, pos, negsuc, ◌+ℤ◌, ◌-ℤ◌, ◌*ℤ◌, neg_ℤ, sym, refl, ap, ◌∙◌, arith, ne_eqb, eqb-true}
use borrow.Author.Tests.{not-true}
use Rattle.integers.specs.Equal.{eq_z}
use Rattle.integers.specs.Polynomial.{#, num, ◌:+◌, ◌:-◌, ◌:*◌, :neg}
use Rattle.integers.proofs.Equal.{eq_z_true, eq_z_product}
use Rattle.integers.proofs.Logic.{and_left, and_right}
use Rattle.integers.proofs.Polynomial.{ring, ring_by}
use Rattle.grid.specs.declared.Point.{Point}
use Rattle.grid.specs.declared.Edge.{Edge}
use Rattle.grid.specs.Edges.{between, cross, aligned}
use Rattle.grid.specs.Points.{at}
use Rattle.grid.specs.Domain.{count, Contour}
use Rattle.grid.specs.Boxes.{along_x, along_y, none_still, by_turns, four_by_turns, box}
use Rattle.grid.specs.inside.Edges.{Closed}

-- the edges of four points lead back
pub closed : (a b c d : Point) → Closed (between a b) (between b c) (between c d) (between d a)
closed a b c d = record { back_x = back a.x b.x c.x d.x; back_y = back a.y b.y c.y d.y }
  where
    back : (p q r s : ℤ) → (q -ℤ p) +ℤ (r -ℤ q) +ℤ (s -ℤ r) +ℤ (p -ℤ s) ≡ pos 0
    back p q r s = ring ((# 1 :- # 0) :+ (# 2 :- # 1) :+ (# 3 :- # 2) :+ (# 0 :- # 3)) (num (pos 0)) (p ∷ q ∷ r ∷ s ∷ []) refl

-- of four numbers that make up 0, where the second and the last are 0, the third is the first, negated
opposite : (p q r s : ℤ) → p +ℤ q +ℤ r +ℤ s ≡ pos 0 → q ≡ pos 0 → s ≡ pos 0 → r ≡ neg_ℤ p
opposite p q r s e f g =
    ring_by (# 1) (:neg (# 0)) (num (pos 1)) (# 0 :+ num (pos 0) :+ # 1 :+ num (pos 0)) (num (pos 0)) (p ∷ r ∷ []) (rw (f, g) at e) refl

neg_none : (p : ℤ) → eq_z (neg_ℤ p) (pos 0) ≡ eq_z p (pos 0)
neg_none (pos zero) = refl
neg_none (pos (suc n)) = sym (ne_eqb (suc n) 0 (λ h. omega arith))
neg_none (negsuc n) = ne_eqb (suc n) 0 (λ h. omega arith)

module _ (u v w z : Edge) where
  module _ (c : Closed u v w z) (e : along_x u ≡ true) (f : along_y v ≡ true) (g : along_x w ≡ true) (h : along_y z ≡ true) where
    -- the numbers that are 0
    uy : u.dy ≡ pos 0
    uy = eq_z_true u.dy (pos 0) e

    vx : v.dx ≡ pos 0
    vx = eq_z_true v.dx (pos 0) f

    wy : w.dy ≡ pos 0
    wy = eq_z_true w.dy (pos 0) g

    zx : z.dx ≡ pos 0
    zx = eq_z_true z.dx (pos 0) h

    third_opposite : w.dx ≡ neg_ℤ u.dx
    third_opposite = opposite u.dx v.dx w.dx z.dx c.back_x vx zx

    fourth_opposite : z.dy ≡ neg_ℤ v.dy
    fourth_opposite = opposite v.dy w.dy z.dy u.dy (turned ∙ c.back_y) wy uy
      where
        turned : v.dy +ℤ w.dy +ℤ z.dy +ℤ u.dy ≡ u.dy +ℤ v.dy +ℤ w.dy +ℤ z.dy
        turned = ring (# 1 :+ # 2 :+ # 3 :+ # 0) (# 0 :+ # 1 :+ # 2 :+ # 3) (u.dy ∷ v.dy ∷ w.dy ∷ z.dy ∷ []) refl

    -- whether none of them is still, the first two tell
    first_two : (not (along_y u) && not (along_x v)) ≡ none_still u v w z
    first_two = rw (e, f, g, h, third_opposite, fourth_opposite, neg_none u.dx, neg_none v.dy) (both (along_y u) (along_x v))
      where
        both : (a b : Bool) → (not a && not b) ≡ ((not (a && true) && not (true && b)) && (not (a && true) && not (true && b)))
        both true b = refl
        both false true = refl
        both false false = refl

    two : List ℤ
    two = u.dx ∷ v.dy ∷ []

    -- all four corners have one cross
    crosses : (cross u v ≡ u.dx *ℤ v.dy) × (cross v w ≡ u.dx *ℤ v.dy) × (cross w z ≡ u.dx *ℤ v.dy) × (cross z u ≡ u.dx *ℤ v.dy)
    unfolding cross two
    crosses = (
      rw (uy, vx) (ring (# 0 :* # 1 :- num (pos 0) :* num (pos 0)) (# 0 :* # 1) two refl),
      rw (vx, wy, third_opposite) (ring (num (pos 0) :* num (pos 0) :- # 1 :* :neg (# 0)) (# 0 :* # 1) two refl),
      rw (wy, zx, third_opposite, fourth_opposite) (ring (:neg (# 0) :* :neg (# 1) :- num (pos 0) :* num (pos 0)) (# 0 :* # 1) two refl),
      rw (zx, uy, fourth_opposite) (ring (num (pos 0) :* num (pos 0) :- :neg (# 1) :* # 0) (# 0 :* # 1) two refl),
    )

  -- so six tests tell
  pub six_tests : Closed u v w z → (((((along_x u && along_y v) && along_x w) && along_y z) && not (along_y u)) && not (along_x v)) ≡ by_turns u v w z
  unfolding by_turns
  six_tests c = go (along_x u) (along_y v) (along_x w) (along_y z) refl refl refl refl
    where
      go : (i j k l : Bool) → along_x u ≡ i → along_y v ≡ j → along_x w ≡ k → along_y z ≡ l
          → (((((i && j) && k) && l) && not (along_y u)) && not (along_x v)) ≡ (i && (j && (k && (l && none_still u v w z))))
      go true true true true e f g h = first_two c e f g h
      go true true true false e f g h = refl
      go true true false l e f g h = refl
      go true false k l e f g h = refl
      go false j k l e f g h = refl

  -- edges along the axes by turns, none still, have one cross, which is not 0
  pub record OneCross : Type 0 where
    pub k : ℤ
    pub some : eq_z k (pos 0) ≡ false
    pub first : cross u v ≡ k
    pub second : cross v w ≡ k
    pub third : cross w z ≡ k
    pub fourth : cross z u ≡ k

  pub one_cross : Closed u v w z → by_turns u v w z ≡ true → OneCross
  unfolding by_turns
  one_cross c y =
      let e = and_left (along_x u) _ y in
      let y₂ = and_right (along_x u) _ y in
      let f = and_left (along_y v) _ y₂ in
      let y₃ = and_right (along_y v) _ y₂ in
      let g = and_left (along_x w) _ y₃ in
      let y₄ = and_right (along_x w) _ y₃ in
      let h = and_left (along_y z) _ y₄ in
      let long = first_two c e f g h ∙ and_right (along_y z) _ y₄ in
      let x = crosses c e f g h in
      record {
        k = u.dx *ℤ v.dy;
        some = eq_z_product u.dx v.dy (not-true _ (and_left (not (along_y u)) _ long)) (not-true _ (and_right (not (along_y u)) _ long));
        first = x.0;
        second = x.1;
        third = x.2;
        fourth = x.3;
      }

-- the edges of a row's first four points
module _ (row : List ℤ) where
  abbrev pub ab : Edge
  ab = between (at row 0) (at row 1)

  abbrev pub bc : Edge
  bc = between (at row 1) (at row 2)

  abbrev pub cd : Edge
  cd = between (at row 2) (at row 3)

  abbrev pub da : Edge
  da = between (at row 3) (at row 0)

  pub begins_x : by_turns ab bc cd da ≡ true → true ≡ four_by_turns row
  unfolding four_by_turns
  begins_x e = rw e

  pub begins_y : by_turns ab bc cd da ≡ false → by_turns bc cd da ab ≡ four_by_turns row
  unfolding four_by_turns
  begins_y e = rw e

  -- a box has four points
  module _ {n : ℕ} (c : Contour row n) where
    pub box_four : box row ≡ true → n ≡ 4
    box_four e = let m = eqb-true (count row) 4 (and_left (eqb (count row) 4) (four_by_turns row) e) in omega (arith, c.even)

  -- and one cross at all its corners
  pub box_cross : box row ≡ true → OneCross ab bc cd da
  box_cross e = go (by_turns ab bc cd da) refl
    where
      go : (t : Bool) → by_turns ab bc cd da ≡ t → OneCross ab bc cd da
      go true f = one_cross ab bc cd da (closed (at row 0) (at row 1) (at row 2) (at row 3)) f
      go false f =
          let y = begins_y f ∙ and_right (eqb (count row) 4) (four_by_turns row) e in
          let x = one_cross bc cd da ab (closed (at row 1) (at row 2) (at row 3) (at row 0)) y in
          record { k = x.k; some = x.some; first = x.fourth; second = x.first; third = x.second; fourth = x.third }

  -- so the way turns at each
  pub box_turns : box row ≡ true → (aligned ab bc ≡ false) × (aligned bc cd ≡ false) × (aligned cd da ≡ false) × (aligned da ab ≡ false)
  box_turns e =
      let x = box_cross e in
      (turns ab bc x.first x.some, turns bc cd x.second x.some, turns cd da x.third x.some, turns da ab x.fourth x.some)
    where
      turns : (u v : Edge) {k : ℤ} → cross u v ≡ k → eq_z k (pos 0) ≡ false → aligned u v ≡ false
      turns u v f s = ap (λ (z : ℤ). eq_z z (pos 0)) f ∙ s
