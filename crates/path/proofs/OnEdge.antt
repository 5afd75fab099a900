-- When a point lies on an edge.
use borrow.Author.Tests.{le-leb, lt-ltb, ne_eqb}
use mathlib.Core.Path.{◌≡◌, refl, sym, ◌∙◌, ap, ap₂}
use mathlib.Core.Bool.{Bool, true, false, ◌&&◌, true≢false, and-false, or-true, or_comm}
use mathlib.Core.List.{[], ◌∷◌}
use Prim.Native.Nat.{zero, suc, ◌+◌, ◌*◌, ◌≤◌}
use native.Mathlib.Omega.{arith}
use native.Mathlib.Decide.{dec_le}
use native.Mathlib.Numerals.{unary_clauses}
use lib.IntN.{ℤ, pos, negsuc, neg_ℤ, ◌-ℤ◌, ◌*ℤ◌}
use lib.Signed.{le_z, lt_z}
use Rattle.integers.specs.Equal.{eq_z}
use Rattle.integers.specs.Linear.{num, at as of, ◌:-◌ as ◌less◌, up, dn}
use Rattle.integers.specs.Polynomial.{#, num as const, ◌:-◌, ◌:*◌, :neg}
use Rattle.integers.proofs.Equal.{eq_z_true, eq_z_same}
use Rattle.integers.proofs.Linear.{difference, le_holds, le_means, lt_holds, lt_means, lt_denies, same_parts}
use Rattle.integers.proofs.Logic.{and_left, and_right}
use Rattle.integers.proofs.Polynomial.{ring, ring_by}
use Rattle.integers.proofs.Ring.{⊖-eq}
use Rattle.grid.specs.declared.Point.{Point}
use Rattle.grid.specs.Points.{same}
use Rattle.grid.specs.Edges.{between, cross, sign, turn, aligned}
use Rattle.grid.proofs.CornerLaws.{same_is}
use Rattle.grid.proofs.SignLaws.{sign_zero}
use Rattle.path.specs.Contains.{above, meets_right}
use Rattle.path.specs.Locate.{amid, on_edge}
use Rattle.path.specs.inside.Locate.{under}
use Rattle.path.proofs.ContainsLaws.{meets_is}

-- a is at most b
abbrev AtMost : ℤ → ℤ → Type 0
AtMost a b = up (of a) + dn (of b) ≤ up (of b) + dn (of a)

both_at_most : (a b : ℤ) → AtMost a b → AtMost b a → a ≡ b
both_at_most a b f g = difference a ∙ ⊖-eq _ _ _ _ (omega arith) ∙ sym (difference b)

-- a product of two numbers that are not below 0 is not
product_not_below : (a b : ℤ) → le_z (pos 0) a ≡ true → le_z (pos 0) b ≡ true → le_z (pos 0) (a *ℤ b) ≡ true
product_not_below (pos m) (pos n) f g = le-leb 0 (m * n) (omega arith)
product_not_below (pos m) (negsuc n) f g = absurd (true≢false (sym g))
product_not_below (negsuc m) b f g = absurd (true≢false (sym f))

-- and where it is not, and one of the two is above 0, the other is not below it
factor_not_below : (a b : ℤ) → lt_z (pos 0) a ≡ true → le_z (pos 0) (a *ℤ b) ≡ true → le_z (pos 0) b ≡ true
factor_not_below a (pos n) f g = le-leb 0 n (omega arith)
factor_not_below (pos zero) (negsuc n) f g = absurd (true≢false (sym f))
factor_not_below (pos (suc m)) (negsuc n) f g = absurd (true≢false (sym (simp unary_clauses at g)))
factor_not_below (negsuc m) (negsuc n) f g = absurd (true≢false (sym f))

-- d is to w as t to h, and t lies from 0 to h: so d lies from 0 to w
module _ (h t w d : ℤ) (whole : lt_z (pos 0) h ≡ true) (part : le_z (pos 0) t ≡ true) (rest : le_z (pos 0) (h -ℤ t) ≡ true) (wide : le_z (pos 0) w ≡ true) (e : h *ℤ d ≡ w *ℤ t) where
  part_not_below : le_z (pos 0) d ≡ true
  part_not_below = factor_not_below h d whole (rw e (product_not_below w t wide part))

  part_at_most : le_z (pos 0) (w -ℤ d) ≡ true
  part_at_most =
      let f : h *ℤ (w -ℤ d) ≡ w *ℤ (h -ℤ t) = ring_by (# 0 :* (# 2 :- # 3)) (# 2 :* (# 0 :- # 1)) (const (negsuc 0)) (# 0 :* # 3) (# 2 :* # 1) (h ∷ t ∷ w ∷ d ∷ []) e refl in
      factor_not_below h (w -ℤ d) whole (rw f (product_not_below w (h -ℤ t) wide rest))

and_turned : (s t u : Bool) → (s && (t && u)) ≡ (u && (t && s))
and_turned true true true = refl
and_turned true true false = refl
and_turned true false u = sym (and-false u)
and_turned false true true = refl
and_turned false true false = refl
and_turned false false u = sym (and-false u)

-- from the smaller to the larger, in either order
module _ (a b z : ℤ) where
  amid_up : AtMost a z → AtMost z b → amid a b z ≡ true
  amid_up f g = rw (le_holds (of a) (of z) f, le_holds (of z) (of b) g)

  amid_down : AtMost b z → AtMost z a → amid a b z ≡ true
  amid_down f g = rw (le_holds (of b) (of z) f, le_holds (of z) (of a) g) (or-true (le_z a z && le_z z b))

  amid_swap : amid a b z ≡ amid b a z
  amid_swap = or_comm (le_z a z && le_z z b) (le_z b z && le_z z a)

  amid_means : amid a b z ≡ true → ((AtMost a z) × (AtMost z b) → ⊥) → (AtMost b z) × (AtMost z a)
  amid_means e n = go (le_z a z && le_z z b) refl
    where
      go : (t : Bool) → (le_z a z && le_z z b) ≡ t → (AtMost b z) × (AtMost z a)
      go true f = absurd (n (le_means (of a) (of z) (and_left (le_z a z) (le_z z b) f), le_means (of z) (of b) (and_right (le_z a z) (le_z z b) f)))
      go false f =
          let g : (le_z b z && le_z z a) ≡ true = rw f at e in
          (le_means (of b) (of z) (and_left (le_z b z) (le_z z a) g), le_means (of z) (of a) (and_right (le_z b z) (le_z z a) g))

-- the ends themselves
amid_ends : (a b : ℤ) → (amid a b a ≡ true) × (amid a b b ≡ true)
amid_ends a b = go (dec_le (up (of a) + dn (of b)) (up (of b) + dn (of a)))
  where
    go : Dec (AtMost a b) → (amid a b a ≡ true) × (amid a b b ≡ true)
    go (yes h) = (amid_up a b a (omega arith) h, amid_up a b b h (omega arith))
    go (no h) = (amid_down a b a (omega arith) (omega arith), amid_down a b b (omega arith) (omega arith))

-- what the code tests: p lies between the ends in y and in x, and on their line
abbrev tested : Point → Point → Point → Bool
tested p a b = amid a.y b.y p.y && (amid a.x b.x p.x && aligned (between a b) (between a p))

-- it holds of both ends
tested_start : (a b : Point) → tested a a b ≡ true
unfolding cross
tested_start a b =
    let e : cross (between a b) (between a a) ≡ pos 0 = ring ((# 2 :- # 0) :* (# 1 :- # 1) :- (# 3 :- # 1) :* (# 0 :- # 0)) (const (pos 0)) (a.x ∷ a.y ∷ b.x ∷ b.y ∷ []) refl in
    rw ((amid_ends a.y b.y).0, (amid_ends a.x b.x).0, e)

tested_end : (a b : Point) → tested b a b ≡ true
unfolding cross
tested_end a b =
    let e : cross (between a b) (between a b) ≡ pos 0 = ring ((# 2 :- # 0) :* (# 3 :- # 1) :- (# 3 :- # 1) :* (# 2 :- # 0)) (const (pos 0)) (a.x ∷ a.y ∷ b.x ∷ b.y ∷ []) refl in
    rw ((amid_ends a.y b.y).1, (amid_ends a.x b.x).1, e)

-- so it says that p is on the edge
pub what_is_tested : (p a b : Point) → tested p a b ≡ on_edge p a b
unfolding on_edge
what_is_tested p a b = go (same p a) (same p b) refl refl
  where
    go : (s t : Bool) → same p a ≡ s → same p b ≡ t → tested p a b ≡ on_edge p a b
    go true t e f = ap (λ (q : Point). tested q a b) (same_is p a e) ∙ tested_start a b ∙ sym (rw e)
    go false true e f = ap (λ (q : Point). tested q a b) (same_is p b f) ∙ tested_end a b ∙ sym (rw (e, f))
    go false false e f = and_turned (amid a.y b.y p.y) (amid a.x b.x p.x) (aligned (between a b) (between a p)) ∙ sym (rw (e, f))

pub end_on_edge : (p a : Point) → on_edge p a p ≡ true
end_on_edge p a = sym (what_is_tested p a p) ∙ tested_end a p

-- an edge has the same points either way
pub on_edge_swap : (p a b : Point) → on_edge p a b ≡ on_edge p b a
unfolding cross
on_edge_swap p a b =
    sym (what_is_tested p a b)
    ∙ ap₂ ◌&&◌ (amid_swap a.y b.y p.y) (ap₂ ◌&&◌ (amid_swap a.x b.x p.x) (opposite (cross (between a b) (between a p)) ∙ ap (λ (z : ℤ). eq_z z (pos 0)) turned))
    ∙ what_is_tested p b a
  where
    opposite : (z : ℤ) → eq_z z (pos 0) ≡ eq_z (neg_ℤ z) (pos 0)
    opposite (pos zero) = refl
    opposite (pos (suc n)) = ne_eqb (suc n) 0 (λ h. omega arith)
    opposite (negsuc n) = sym (ne_eqb (suc n) 0 (λ h. omega arith))

    turned : neg_ℤ (cross (between a b) (between a p)) ≡ cross (between b a) (between b p)
    turned =
        ring
        (:neg ((# 2 :- # 0) :* (# 5 :- # 1) :- (# 3 :- # 1) :* (# 4 :- # 0)))
        ((# 0 :- # 2) :* (# 5 :- # 3) :- (# 1 :- # 3) :* (# 4 :- # 2))
        (a.x ∷ a.y ∷ b.x ∷ b.y ∷ p.x ∷ p.y ∷ []) refl

-- both ends above p's horizontal
pub not_under : (p a b : Point) → above p a ≡ true → above p b ≡ true → on_edge p a b ≡ false
not_under p a b e f = sym (what_is_tested p a b) ∙ go (amid a.y b.y p.y) refl
  where
    over : (q : Point) → above p q ≡ true → AtMost q.y p.y → ⊥
    over q g h = omega (arith, lt_means (of p.y) (of q.y) g)

    go : (s : Bool) → amid a.y b.y p.y ≡ s → tested p a b ≡ false
    go false g = rw g
    go true g = absurd (over b f (amid_means a.y b.y p.y g (λ h. over a e h.0)).0)

-- the start not above p's horizontal, and not p, and the end below
module _ (p a b : Point) (low : above p a ≡ false) (other : same p a ≡ false) (below : above (under p) b ≡ false) where
  end_below : AtMost p.y b.y → ⊥
  end_below h = omega (arith, lt_denies (of p.y less num 1) (of b.y) below)

  start_low : AtMost a.y p.y
  start_low = lt_denies (of p.y) (of a.y) low

  level : amid a.y b.y p.y ≡ true → p.y ≡ a.y
  level g = both_at_most p.y a.y (amid_means a.y b.y p.y g (λ h. end_below h.1)).1 start_low

  -- an edge that leaves p's horizontal for below meets it in its start alone
  only_there : aligned (between a b) (between a p) ≡ true → p.y ≡ a.y → p.x ≡ a.x
  unfolding cross
  only_there g e =
      let f : cross (between a b) (between a p) ≡ pos 0 = eq_z_true _ _ g in
      let h : (b.x -ℤ a.x) *ℤ (a.y -ℤ a.y) -ℤ (b.y -ℤ a.y) *ℤ (p.x -ℤ a.x) ≡ pos 0 = rw e at f in
      let k : (a.y -ℤ b.y) *ℤ (p.x -ℤ a.x) ≡ pos 0 *ℤ pos 0 =
      ring_by ((# 1 :- # 3) :* (# 4 :- # 0)) (const (pos 0) :* const (pos 0)) (const (pos 1)) ((# 2 :- # 0) :* (# 1 :- # 1) :- (# 3 :- # 1) :* (# 4 :- # 0)) (const (pos 0)) (a.x ∷ a.y ∷ b.x ∷ b.y ∷ p.x ∷ []) h refl in
      let whole : lt_z (pos 0) (a.y -ℤ b.y) ≡ true = lt_holds (num 0) (of a.y less of b.y) (omega (arith, same_parts (of p.y) (of a.y) e, end_below)) in
      let rest : le_z (pos 0) (a.y -ℤ b.y -ℤ pos 0) ≡ true = le_holds (num 0) (of a.y less of b.y less num 0) (omega (arith, lt_means (num 0) (of a.y less of b.y) whole)) in
      both_at_most p.x a.x
      (omega (arith, le_means (num 0) (num 0 less (of p.x less of a.x)) (part_at_most (a.y -ℤ b.y) (pos 0) (pos 0) (p.x -ℤ a.x) whole refl rest refl k)))
      (omega (arith, le_means (num 0) (of p.x less of a.x) (part_not_below (a.y -ℤ b.y) (pos 0) (pos 0) (p.x -ℤ a.x) whole refl rest refl k)))

  pub not_over : on_edge p a b ≡ false
  not_over = sym (what_is_tested p a b) ∙ go (amid a.y b.y p.y) (aligned (between a b) (between a p)) refl refl
    where
      go : (s t : Bool) → amid a.y b.y p.y ≡ s → aligned (between a b) (between a p) ≡ t → tested p a b ≡ false
      go false t g h = rw g
      go true false g h = rw (g, h) (and-false (amid a.x b.x p.x))
      go true true g h =
          let e : same p a ≡ true = rw (only_there h (level g), level g, eq_z_same a.x) (eq_z_same a.y) in
          absurd (true≢false (sym e ∙ other))

-- an edge from l, not above p's horizontal, to h above it has p where it does not turn on to p
module _ (p l h : Point) (low : above p l ≡ false) (high : above p h ≡ true) where
  l_low : AtMost l.y p.y
  l_low = lt_denies (of p.y) (of l.y) low

  h_high : AtMost p.y h.y
  h_high = omega (arith, lt_means (of p.y) (of h.y) high)

  -- p on the line lies between the ends also in x
  between_in_x : cross (between l h) (between l p) ≡ pos 0 → amid l.x h.x p.x ≡ true
  unfolding cross
  between_in_x f = go (dec_le (up (of l.x) + dn (of h.x)) (up (of h.x) + dn (of l.x)))
    where
      whole : lt_z (pos 0) (h.y -ℤ l.y) ≡ true
      whole = lt_holds (num 0) (of h.y less of l.y) (omega (arith, l_low, lt_means (of p.y) (of h.y) high))

      part : le_z (pos 0) (p.y -ℤ l.y) ≡ true
      part = le_holds (num 0) (of p.y less of l.y) (omega (arith, l_low))

      rest : le_z (pos 0) (h.y -ℤ l.y -ℤ (p.y -ℤ l.y)) ≡ true
      rest = le_holds (num 0) (of h.y less of l.y less (of p.y less of l.y)) (omega (arith, h_high))

      go : Dec (AtMost l.x h.x) → amid l.x h.x p.x ≡ true
      go (yes o) =
          let wide : le_z (pos 0) (h.x -ℤ l.x) ≡ true = le_holds (num 0) (of h.x less of l.x) (omega arith) in
          let e : (h.y -ℤ l.y) *ℤ (p.x -ℤ l.x) ≡ (h.x -ℤ l.x) *ℤ (p.y -ℤ l.y) =
          ring_by ((# 3 :- # 1) :* (# 4 :- # 0)) ((# 2 :- # 0) :* (# 5 :- # 1)) (const (negsuc 0)) ((# 2 :- # 0) :* (# 5 :- # 1) :- (# 3 :- # 1) :* (# 4 :- # 0)) (const (pos 0)) (l.x ∷ l.y ∷ h.x ∷ h.y ∷ p.x ∷ p.y ∷ []) f refl in
          amid_up l.x h.x p.x
          (omega (arith, le_means (num 0) (of p.x less of l.x) (part_not_below (h.y -ℤ l.y) (p.y -ℤ l.y) (h.x -ℤ l.x) (p.x -ℤ l.x) whole part rest wide e)))
          (omega (arith, le_means (num 0) (of h.x less of l.x less (of p.x less of l.x)) (part_at_most (h.y -ℤ l.y) (p.y -ℤ l.y) (h.x -ℤ l.x) (p.x -ℤ l.x) whole part rest wide e)))
      go (no o) =
          let wide : le_z (pos 0) (l.x -ℤ h.x) ≡ true = le_holds (num 0) (of l.x less of h.x) (omega arith) in
          let e : (h.y -ℤ l.y) *ℤ (l.x -ℤ p.x) ≡ (l.x -ℤ h.x) *ℤ (p.y -ℤ l.y) =
          ring_by ((# 3 :- # 1) :* (# 0 :- # 4)) ((# 0 :- # 2) :* (# 5 :- # 1)) (const (pos 1)) ((# 2 :- # 0) :* (# 5 :- # 1) :- (# 3 :- # 1) :* (# 4 :- # 0)) (const (pos 0)) (l.x ∷ l.y ∷ h.x ∷ h.y ∷ p.x ∷ p.y ∷ []) f refl in
          amid_down l.x h.x p.x
          (omega (arith, le_means (num 0) (of l.x less of h.x less (of l.x less of p.x)) (part_at_most (h.y -ℤ l.y) (p.y -ℤ l.y) (l.x -ℤ h.x) (l.x -ℤ p.x) whole part rest wide e)))
          (omega (arith, le_means (num 0) (of l.x less of p.x) (part_not_below (h.y -ℤ l.y) (p.y -ℤ l.y) (l.x -ℤ h.x) (l.x -ℤ p.x) whole part rest wide e)))

  turn_tells : eq_z (turn (between l h) (between h p)) (pos 0) ≡ on_edge p l h
  unfolding cross
  turn_tells =
      sym (sign_zero (cross (between l h) (between h p)))
      ∙ ap (λ (z : ℤ). eq_z z (pos 0)) onward
      ∙ go (aligned (between l h) (between l p)) refl
      ∙ what_is_tested p l h
    where
      onward : cross (between l h) (between h p) ≡ cross (between l h) (between l p)
      onward =
          ring
          ((# 2 :- # 0) :* (# 5 :- # 3) :- (# 3 :- # 1) :* (# 4 :- # 2))
          ((# 2 :- # 0) :* (# 5 :- # 1) :- (# 3 :- # 1) :* (# 4 :- # 0))
          (l.x ∷ l.y ∷ h.x ∷ h.y ∷ p.x ∷ p.y ∷ []) refl

      in_y : amid l.y h.y p.y ≡ true
      in_y = amid_up l.y h.y p.y l_low h_high

      go : (t : Bool) → aligned (between l h) (between l p) ≡ t → aligned (between l h) (between l p) ≡ tested p l h
      go true e = e ∙ sym (rw (in_y, between_in_x (eq_z_true _ _ e), e))
      go false e = e ∙ sym (rw (in_y, e) (and-false (amid l.x h.x p.x)))

  pub turn_met : turn (between l h) (between h p) ≡ pos 0 → on_edge p l h ≡ true
  turn_met e = sym turn_tells ∙ ap (λ (z : ℤ). eq_z z (pos 0)) e ∙ eq_z_same (pos 0)

  pub turn_missed : (turn (between l h) (between h p) ≡ pos 0 → ⊥) → on_edge p l h ≡ false
  turn_missed n = go (on_edge p l h) refl
    where
      go : (t : Bool) → on_edge p l h ≡ t → on_edge p l h ≡ false
      go true e = absurd (n (eq_z_true _ _ (turn_tells ∙ e)))
      go false e = e

-- and counts where it turns left
pub turn_counts : (p l h : Point) → lt_z (pos 0) (turn (between l h) (between h p)) ≡ meets_right p l h
turn_counts p l h = sided (cross (between l h) (between h p)) ∙ meets_is p l h
  where
    sided : (z : ℤ) → lt_z (pos 0) (sign z) ≡ lt_z (pos 0) z
    sided (pos zero) = refl
    sided (pos (suc n)) = sym (lt-ltb 0 (suc n) (omega arith))
    sided (negsuc n) = refl
