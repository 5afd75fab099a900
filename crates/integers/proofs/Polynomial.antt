-- Two polynomials with the same normal form are equal: `ring e f ρ refl : ev ρ e ≡ ev ρ f`.
use mathlib.Core.Path.{◌≡◌, refl, sym, ◌∙◌, ap, ap₂, subst}
use mathlib.Core.List.{List, [], ◌∷◌}
use Prim.Native.Nat.{ℕ, zero, suc, compare, Ordering}
use lib.ListN.{get_or}
use lib.Dec.{T, eqb→eq, compare_is_eq}
use lib.IntN.{ℤ, pos, negsuc, neg_ℤ, ◌+ℤ◌, ◌-ℤ◌, ◌*ℤ◌, +ℤ_assoc, +ℤ_comm, +ℤ_idl, +ℤ_idr, suc_ℤ-*ℤ, zero-*ℤ, *ℤ-zero, *ℤ_comm, neg_ℤ-+ℤ, +ℤ_invr, -ℤ-+ℤ_cancel}
use Rattle.integers.specs.Polynomial.{Po, #, num, ◌:+◌, ◌:-◌, ◌:*◌, :neg, ev, Mono, Term, Poly, at_var, ins, mul_m, then, cmp, cons, at_term, ins_t, add_p, neg_p, mul_t, mul_p, norm}
use Rattle.integers.proofs.Ring.{+ℤ_left_comm, *ℤ_assoc, *ℤ_distribl, *ℤ_distribr, neg-*ℤ}

one-* : (x : ℤ) → pos 1 *ℤ x ≡ x
one-* x = suc_ℤ-*ℤ (pos 0) x ∙ ap (λ (y : ℤ). y +ℤ x) (zero-*ℤ x) ∙ +ℤ_idl x

*-left_comm : (a b c : ℤ) → a *ℤ (b *ℤ c) ≡ b *ℤ (a *ℤ c)
*-left_comm a b c = sym (*ℤ_assoc a b c) ∙ ap (λ (x : ℤ). x *ℤ c) (*ℤ_comm a b) ∙ *ℤ_assoc b a c

ruleset Ac = (+ℤ_assoc, +ℤ_comm, +ℤ_left_comm)

ruleset MAC = (*ℤ_assoc, *ℤ_comm, *-left_comm)

module _ (ρ : List ℤ) where
  abbrev ev_m : Mono → ℤ
  ev_m [] = pos 1
  ev_m (i ∷ m) = get_or ρ i (pos 0) *ℤ ev_m m

  abbrev ev_p : Poly → ℤ
  ev_p [] = pos 0
  ev_p (t ∷ p) = t.0 *ℤ ev_m t.1 +ℤ ev_p p

  at_var_ok : (o : Ordering) (i j : ℕ) (m r : Mono) → ev_m r ≡ get_or ρ i (pos 0) *ℤ ev_m m → ev_m (at_var o i j m r) ≡ get_or ρ i (pos 0) *ℤ (get_or ρ j (pos 0) *ℤ ev_m m)
  at_var_ok Ordering.lt i j m r h = refl
  at_var_ok Ordering.eq i j m r h = refl
  at_var_ok Ordering.gt i j m r h = ap (λ (x : ℤ). get_or ρ j (pos 0) *ℤ x) h ∙ *-left_comm (get_or ρ j (pos 0)) (get_or ρ i (pos 0)) (ev_m m)

  ins_ok : (i : ℕ) (m : Mono) → ev_m (ins i m) ≡ get_or ρ i (pos 0) *ℤ ev_m m
  ins_ok i [] = refl
  ins_ok i (j ∷ m) = at_var_ok (compare i j) i j m (ins i m) (ins_ok i m)

  mul_m_ok : (m n : Mono) → ev_m (mul_m m n) ≡ ev_m m *ℤ ev_m n
  mul_m_ok [] n = sym (one-* (ev_m n))
  mul_m_ok (i ∷ m) n = ins_ok i (mul_m m n) ∙ ap (λ (x : ℤ). get_or ρ i (pos 0) *ℤ x) (mul_m_ok m n) ∙ sym (*ℤ_assoc (get_or ρ i (pos 0)) (ev_m m) (ev_m n))

  cons_ok : (c : ℤ) (m : Mono) (p : Poly) → ev_p (cons c m p) ≡ c *ℤ ev_m m +ℤ ev_p p
  cons_ok (pos zero) m p = sym (ap (λ (x : ℤ). x +ℤ ev_p p) (zero-*ℤ (ev_m m)) ∙ +ℤ_idl (ev_p p))
  cons_ok (pos (suc c)) m p = refl
  cons_ok (negsuc c) m p = refl

  then_eq : (i j : ℕ) (o : Ordering) → T (compare_is_eq (then (compare i j) o)) → (i ≡ j) × T (compare_is_eq o)
  then_eq i j o t = go (compare i j) refl t
    where
      go : (q : Ordering) → compare i j ≡ q → T (compare_is_eq (then q o)) → (i ≡ j) × T (compare_is_eq o)
      go Ordering.lt e t = absurd t
      go Ordering.eq e t = (eqb→eq i j (subst (λ (x : Ordering). T (compare_is_eq x)) (sym e) tt), t)
      go Ordering.gt e t = absurd t

  cmp_eq : (m n : Mono) → T (compare_is_eq (cmp m n)) → m ≡ n
  cmp_eq [] [] t = refl
  cmp_eq [] (j ∷ n) t = absurd t
  cmp_eq (i ∷ m) [] t = absurd t
  cmp_eq (i ∷ m) (j ∷ n) t = let h = then_eq i j (cmp m n) t in ap₂ {C = Mono} (λ (x : ℕ) (y : Mono). x ∷ y) h.0 (cmp_eq m n h.1)

  at_term_ok : (o : Ordering) (c : ℤ) (m : Mono) (t : Term) (p r : Poly) → (T (compare_is_eq o) → m ≡ t.1) → ev_p r ≡ c *ℤ ev_m m +ℤ ev_p p → ev_p (at_term o c m t p r) ≡ c *ℤ ev_m m +ℤ (t.0 *ℤ ev_m t.1 +ℤ ev_p p)
  at_term_ok Ordering.lt c m t p r e h = cons_ok c m (t ∷ p)
  at_term_ok Ordering.eq c m t p r e h =
      cons_ok (c +ℤ t.0) m p ∙ ap (λ (x : ℤ). x +ℤ ev_p p) (*ℤ_distribr c t.0 (ev_m m)) ∙ +ℤ_assoc (c *ℤ ev_m m) (t.0 *ℤ ev_m m) (ev_p p) ∙ ap (λ (n : Mono). c *ℤ ev_m m +ℤ (t.0 *ℤ ev_m n +ℤ ev_p p)) (e tt)
  at_term_ok Ordering.gt c m t p r e h = ap (λ (x : ℤ). t.0 *ℤ ev_m t.1 +ℤ x) h ∙ +ℤ_left_comm (t.0 *ℤ ev_m t.1) (c *ℤ ev_m m) (ev_p p)

  ins_t_ok : (c : ℤ) (m : Mono) (p : Poly) → ev_p (ins_t c m p) ≡ c *ℤ ev_m m +ℤ ev_p p
  ins_t_ok c m [] = cons_ok c m []
  ins_t_ok c m (t ∷ p) = at_term_ok (cmp m t.1) c m t p (ins_t c m p) (cmp_eq m t.1) (ins_t_ok c m p)

  add_p_ok : (p q : Poly) → ev_p (add_p p q) ≡ ev_p p +ℤ ev_p q
  add_p_ok [] q = sym (+ℤ_idl (ev_p q))
  add_p_ok (t ∷ p) q = ins_t_ok t.0 t.1 (add_p p q) ∙ ap (λ (x : ℤ). t.0 *ℤ ev_m t.1 +ℤ x) (add_p_ok p q) ∙ sym (+ℤ_assoc (t.0 *ℤ ev_m t.1) (ev_p p) (ev_p q))

  neg_p_ok : (p : Poly) → ev_p (neg_p p) ≡ neg_ℤ (ev_p p)
  neg_p_ok [] = refl
  neg_p_ok (t ∷ p) = ap₂ ◌+ℤ◌ (neg-*ℤ t.0 (ev_m t.1)) (neg_p_ok p) ∙ sym (neg_ℤ-+ℤ (t.0 *ℤ ev_m t.1) (ev_p p))

  mid : (c m d n : ℤ) → (c *ℤ d) *ℤ (m *ℤ n) ≡ (c *ℤ m) *ℤ (d *ℤ n)
  mid c m d n = simp MAC

  mul_t_ok : (c : ℤ) (m : Mono) (p : Poly) → ev_p (mul_t c m p) ≡ (c *ℤ ev_m m) *ℤ ev_p p
  mul_t_ok c m [] = sym (*ℤ-zero (c *ℤ ev_m m))
  mul_t_ok c m (t ∷ p) =
      ins_t_ok (c *ℤ t.0) (mul_m m t.1) (mul_t c m p) ∙ ap₂ ◌+ℤ◌ (ap (λ (x : ℤ). (c *ℤ t.0) *ℤ x) (mul_m_ok m t.1) ∙ mid c (ev_m m) t.0 (ev_m t.1)) (mul_t_ok c m p) ∙ sym (*ℤ_distribl (c *ℤ ev_m m) (t.0 *ℤ ev_m t.1) (ev_p p))

  mul_p_ok : (p q : Poly) → ev_p (mul_p p q) ≡ ev_p p *ℤ ev_p q
  mul_p_ok [] q = sym (zero-*ℤ (ev_p q))
  mul_p_ok (t ∷ p) q = add_p_ok (mul_t t.0 t.1 q) (mul_p p q) ∙ ap₂ ◌+ℤ◌ (mul_t_ok t.0 t.1 q) (mul_p_ok p q) ∙ sym (*ℤ_distribr (t.0 *ℤ ev_m t.1) (ev_p p) (ev_p q))

  norm_ok : (e : Po) → ev_p (norm e) ≡ ev ρ e
  norm_ok (# i) = let x = get_or ρ i (pos 0) in +ℤ_idr (pos 1 *ℤ (x *ℤ pos 1)) ∙ one-* (x *ℤ pos 1) ∙ *ℤ_comm x (pos 1) ∙ one-* x
  norm_ok (num z) = cons_ok z [] [] ∙ +ℤ_idr (z *ℤ pos 1) ∙ *ℤ_comm z (pos 1) ∙ one-* z
  norm_ok (e :+ f) = add_p_ok (norm e) (norm f) ∙ ap₂ ◌+ℤ◌ (norm_ok e) (norm_ok f)
  norm_ok (e :- f) = add_p_ok (norm e) (neg_p (norm f)) ∙ ap₂ ◌+ℤ◌ (norm_ok e) (neg_p_ok (norm f) ∙ ap neg_ℤ (norm_ok f))
  norm_ok (e :* f) = mul_p_ok (norm e) (norm f) ∙ ap₂ ◌*ℤ◌ (norm_ok e) (norm_ok f)
  norm_ok (:neg e) = neg_p_ok (norm e) ∙ ap neg_ℤ (norm_ok e)

pub ring : (e f : Po) (ρ : List ℤ) → norm e ≡ norm f → ev ρ e ≡ ev ρ f
ring e f ρ h = sym (norm_ok ρ e) ∙ ap (ev_p ρ) h ∙ norm_ok ρ f

-- numbers whose difference is 0 are equal
pub no_difference : (x y : ℤ) → x -ℤ y ≡ pos 0 → x ≡ y
no_difference x y z = sym (-ℤ-+ℤ_cancel x y) ∙ ap (λ (t : ℤ). t +ℤ y) z ∙ +ℤ_idl y

-- a linear combination of one hypothesis: e - f is k times a - b
pub ring_by : (e f k a b : Po) (ρ : List ℤ) → ev ρ a ≡ ev ρ b → norm (e :- f) ≡ norm (k :* (a :- b)) → ev ρ e ≡ ev ρ f
ring_by e f k a b ρ h n = no_difference (ev ρ e) (ev ρ f) (ring (e :- f) (k :* (a :- b)) ρ n ∙ ap (λ (x : ℤ). ev ρ k *ℤ (x -ℤ ev ρ b)) h ∙ ap (λ (x : ℤ). ev ρ k *ℤ x) (+ℤ_invr (ev ρ b)) ∙ *ℤ-zero (ev ρ k))
