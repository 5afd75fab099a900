-- Laws of edges: how long they are on the grid, and those that are still.
use Rattle.std.proofs.Common.{◌≡◌, ℕ, ◌+◌, ◌*◌, ◌^◌, ◌<◌, ◌≤◌, Bool, true, false, ◌&&◌, [], ◌∷◌, ℤ, pos, ◌-ℤ◌, ◌*ℤ◌, sym, refl, ap, ◌∙◌, subst, ap₂, true≢false, mul_assoc, mul_comm, mul-le-mul, arith}
use lib.IntN.{+ℤ_invr}
use Rattle.integers.specs.Equal.{eq_z}
use Rattle.integers.specs.Bound.{In}
use Rattle.integers.specs.Polynomial.{#, num, ◌:-◌, ◌:*◌}
use Rattle.integers.proofs.Logic.{and_left, and_right}
use Rattle.integers.proofs.Bound.{in_sub, in_add, in_mul}
use Rattle.integers.proofs.Polynomial.{ring, no_difference}
use Rattle.integers.proofs.Equal.{eq_z_true, eq_z_same}
use Rattle.grid.specs.declared.Point.{Point}
use Rattle.grid.specs.declared.Edge.{Edge}
use Rattle.grid.specs.Limits.{limit}
use Rattle.grid.specs.Points.{on, same}
use Rattle.grid.specs.Edges.{between, still, cross, dot, aligned}
use Rattle.grid.specs.inside.Edges.{Short}
use Rattle.grid.proofs.PointLaws.{x_on, y_on, gap_in}

-- the largest products of edges
products : (bound : ℕ) → 2 * bound * (2 * bound) + 2 * bound * (2 * bound) ≡ 8 * (bound * bound)
products bound =
    let twice : bound * (2 * bound) ≡ 2 * (bound * bound) = sym (mul_assoc bound 2 bound) ∙ ap (λ (n : ℕ). n * bound) (mul_comm bound 2) ∙ mul_assoc 2 bound bound in
    let one : 2 * bound * (2 * bound) ≡ 2 * (2 * (bound * bound)) = mul_assoc 2 bound (2 * bound) ∙ ap (λ (n : ℕ). 2 * n) twice in
    omega (arith, one)

-- the edges from a to b and from c to d, points of a grid
module _ (bound : ℕ) (a b c d : Point) (p : on bound a ≡ true) (q : on bound b ≡ true) (r : on bound c ≡ true) (s : on bound d ≡ true) where
  pub edges_short : Short bound (between a b) (between c d)
  edges_short = record {
    ux_in = gap_in bound a.x b.x (x_on bound a p) (x_on bound b q);
    uy_in = gap_in bound a.y b.y (y_on bound a p) (y_on bound b q);
    vx_in = gap_in bound c.x d.x (x_on bound c r) (x_on bound d s);
    vy_in = gap_in bound c.y d.y (y_on bound c r) (y_on bound d s);
  }

  -- their cross and their dot lie within 8 times the bound squared
  pub cross_within : In (8 * (bound * bound)) (cross (between a b) (between c d))
  unfolding cross
  cross_within =
      let w = edges_short in
      subst (λ (n : ℕ). In n (cross (between a b) (between c d))) (products bound) (in_sub (in_mul w.ux_in w.vy_in) (in_mul w.uy_in w.vx_in))

  pub dot_within : In (8 * (bound * bound)) (dot (between a b) (between c d))
  unfolding dot
  dot_within =
      let w = edges_short in
      subst (λ (n : ℕ). In n (dot (between a b) (between c d))) (products bound) (in_add (in_mul w.ux_in w.vx_in) (in_mul w.uy_in w.vy_in))

-- which fits 64 bits, on either grid
pub products_fit : (bound : ℕ) → bound ≤ limit → 8 * (bound * bound) < 2 ^ 63
unfolding limit
products_fit bound h = omega (arith, mul-le-mul h h)

-- the two edges of a corner
pub corner_short : (bound : ℕ) (a b c : Point) → on bound a ≡ true → on bound b ≡ true → on bound c ≡ true → Short bound (between a b) (between b c)
corner_short bound a b c p q r = edges_short bound a b b c p q q r

-- equal numbers, whichever of them comes first
eq_z_swap : (x y : ℤ) → eq_z x y ≡ eq_z y x
eq_z_swap x y = go (eq_z x y) (eq_z y x) refl refl
  where
    go : (s t : Bool) → eq_z x y ≡ s → eq_z y x ≡ t → eq_z x y ≡ eq_z y x
    go true true e f = e ∙ sym f
    go false false e f = e ∙ sym f
    go true false e f = absurd (true≢false (sym (eq_z_same y) ∙ ap (eq_z y) (sym (eq_z_true x y e)) ∙ f))
    go false true e f = absurd (true≢false (sym (eq_z_same x) ∙ ap (eq_z x) (sym (eq_z_true y x f)) ∙ e))

-- equal numbers have no difference
eq_z_difference : (x y : ℤ) → eq_z x y ≡ eq_z (x -ℤ y) (pos 0)
eq_z_difference x y = go (eq_z x y) (eq_z (x -ℤ y) (pos 0)) refl refl
  where
    none : x ≡ y → eq_z (x -ℤ y) (pos 0) ≡ true
    none e = ap (λ (z : ℤ). eq_z z (pos 0)) (ap (λ (z : ℤ). z -ℤ y) e ∙ +ℤ_invr y) ∙ eq_z_same (pos 0)

    go : (s t : Bool) → eq_z x y ≡ s → eq_z (x -ℤ y) (pos 0) ≡ t → eq_z x y ≡ eq_z (x -ℤ y) (pos 0)
    go true true e f = e ∙ sym f
    go false false e f = e ∙ sym f
    go true false e f = absurd (true≢false (sym (none (eq_z_true x y e)) ∙ f))
    go false true e f = absurd (true≢false (sym (eq_z_same x) ∙ ap (eq_z x) (no_difference x y (eq_z_true (x -ℤ y) (pos 0) f)) ∙ e))

-- an edge is still where it leads to the same point
module _ (a b : Point) where
  pub same_before : same b a ≡ still (between a b)
  same_before = ap₂ ◌&&◌ (eq_z_difference b.x a.x) (eq_z_difference b.y a.y)

  pub same_after : same a b ≡ still (between a b)
  same_after = ap₂ ◌&&◌ (eq_z_swap a.x b.x) (eq_z_swap a.y b.y) ∙ same_before

-- it goes nowhere
still_none : (u : Edge) → still u ≡ true → (u.dx ≡ pos 0) × (u.dy ≡ pos 0)
still_none u e = (
  eq_z_true u.dx (pos 0) (and_left (eq_z u.dx (pos 0)) (eq_z u.dy (pos 0)) e),
  eq_z_true u.dy (pos 0) (and_right (eq_z u.dx (pos 0)) (eq_z u.dy (pos 0)) e),
)

unless : (t p : Bool) → (t ≡ true → p ≡ true) → p ≡ false → t ≡ false
unless false p h n = refl
unless true p h n = absurd (true≢false (sym (h refl) ∙ n))

module _ (u v : Edge) where
  -- and has cross 0 with every edge
  pub still_to : still u ≡ true → cross u v ≡ pos 0
  unfolding cross
  still_to e =
      ap₂ (λ (x y : ℤ). x *ℤ v.dy -ℤ y *ℤ v.dx) (still_none u e).0 (still_none u e).1
      ∙ ring (num (pos 0) :* # 1 :- num (pos 0) :* # 0) (num (pos 0)) (v.dx ∷ v.dy ∷ []) refl

  pub still_from : still v ≡ true → cross u v ≡ pos 0
  unfolding cross
  still_from e =
      ap₂ (λ (x y : ℤ). u.dx *ℤ y -ℤ u.dy *ℤ x) (still_none v e).0 (still_none v e).1
      ∙ ring (# 0 :* num (pos 0) :- # 1 :* num (pos 0)) (num (pos 0)) (u.dx ∷ u.dy ∷ []) refl

  cross_none : cross u v ≡ pos 0 → aligned u v ≡ true
  cross_none e = ap (λ (z : ℤ). eq_z z (pos 0)) e ∙ eq_z_same (pos 0)

  -- so where the way turns, neither edge is still
  pub moving_before : aligned u v ≡ false → still u ≡ false
  moving_before = unless (still u) (aligned u v) (λ e. cross_none (still_to e))

  pub moving : aligned u v ≡ false → still v ≡ false
  moving = unless (still v) (aligned u v) (λ e. cross_none (still_from e))
