-- Polynomial identities. An expression's variables are numbers, read in a list of integers; its normal form is a sorted list of terms, each an integer and a sorted list of variables.
use Rattle.std.specs.Prelude.{List, [], ◌∷◌, get_or, ℤ, pos, negsuc, neg_ℤ, ◌+ℤ◌, ◌-ℤ◌, ◌*ℤ◌}
use Prim.Native.Nat.{ℕ, zero, suc, compare, Ordering}

infixl 6 ◌:+◌ ◌:-◌
infixl 7 ◌:*◌
pub data Po : Type 0 where
  # : ℕ → Po
  num : ℤ → Po
  ◌:+◌ : Po → Po → Po
  ◌:-◌ : Po → Po → Po
  ◌:*◌ : Po → Po → Po
  :neg : Po → Po

abbrev pub ev : List ℤ → Po → ℤ
ev ρ (# i) = get_or ρ i (pos 0)
ev ρ (num z) = z
ev ρ (e :+ f) = ev ρ e +ℤ ev ρ f
ev ρ (e :- f) = ev ρ e -ℤ ev ρ f
ev ρ (e :* f) = ev ρ e *ℤ ev ρ f
ev ρ (:neg e) = neg_ℤ (ev ρ e)

-- normal forms
abbrev pub Mono : Type 0
Mono = List ℕ

abbrev pub Term : Type 0
Term = ℤ × Mono

abbrev pub Poly : Type 0
Poly = List Term

-- a variable into a product
abbrev pub at_var : Ordering → ℕ → ℕ → Mono → Mono → Mono
at_var Ordering.lt i j m r = i ∷ j ∷ m
at_var Ordering.eq i j m r = i ∷ j ∷ m
at_var Ordering.gt i j m r = j ∷ r

abbrev pub ins : ℕ → Mono → Mono
ins i [] = i ∷ []
ins i (j ∷ m) = at_var (compare i j) i j m (ins i m)

abbrev pub mul_m : Mono → Mono → Mono
mul_m [] n = n
mul_m (i ∷ m) n = ins i (mul_m m n)

abbrev pub then : Ordering → Ordering → Ordering
then Ordering.lt o = Ordering.lt
then Ordering.eq o = o
then Ordering.gt o = Ordering.gt

abbrev pub cmp : Mono → Mono → Ordering
cmp [] [] = Ordering.eq
cmp [] (j ∷ n) = Ordering.lt
cmp (i ∷ m) [] = Ordering.gt
cmp (i ∷ m) (j ∷ n) = then (compare i j) (cmp m n)

-- a term before a polynomial, dropped if it is 0
abbrev pub cons : ℤ → Mono → Poly → Poly
cons (pos zero) m p = p
cons (pos (suc c)) m p = (pos (suc c), m) ∷ p
cons (negsuc c) m p = (negsuc c, m) ∷ p

abbrev pub at_term : Ordering → ℤ → Mono → Term → Poly → Poly → Poly
at_term Ordering.lt c m t p r = cons c m (t ∷ p)
at_term Ordering.eq c m t p r = cons (c +ℤ t.0) m p
at_term Ordering.gt c m t p r = t ∷ r

abbrev pub ins_t : ℤ → Mono → Poly → Poly
ins_t c m [] = cons c m []
ins_t c m (t ∷ p) = at_term (cmp m t.1) c m t p (ins_t c m p)

abbrev pub add_p : Poly → Poly → Poly
add_p [] q = q
add_p (t ∷ p) q = ins_t t.0 t.1 (add_p p q)

abbrev pub neg_p : Poly → Poly
neg_p [] = []
neg_p (t ∷ p) = (neg_ℤ t.0, t.1) ∷ neg_p p

abbrev pub mul_t : ℤ → Mono → Poly → Poly
mul_t c m [] = []
mul_t c m (t ∷ p) = ins_t (c *ℤ t.0) (mul_m m t.1) (mul_t c m p)

abbrev pub mul_p : Poly → Poly → Poly
mul_p [] q = []
mul_p (t ∷ p) q = add_p (mul_t t.0 t.1 q) (mul_p p q)

abbrev pub norm : Po → Poly
norm (# i) = (pos 1, i ∷ []) ∷ []
norm (num z) = cons z [] []
norm (e :+ f) = add_p (norm e) (norm f)
norm (e :- f) = add_p (norm e) (neg_p (norm f))
norm (e :* f) = mul_p (norm e) (norm f)
norm (:neg e) = neg_p (norm e)
