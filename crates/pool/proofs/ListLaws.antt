-- Contours of one press and of the other in a list that grows and shrinks.
use mathlib.Core.Path.{◌≡◌, refl, sym, ◌∙◌, ap, ap₂}
use mathlib.Core.Bool.{Bool, true, false, not, ◌&&◌, ◌||◌}
use mathlib.Core.List.{List, [], ◌∷◌, ◌++◌}
use Prim.Native.Nat.{ℕ, zero, suc, ◌+◌, ◌≤◌}
use native.Mathlib.Omega.{arith}
use lib.ListN.{length}
use borrow.Author.Tests.{eqb-true, ne_eqb, eq-eqb}
use Rattle.integers.proofs.Logic.{or_left, or_right}
use Rattle.grid.specs.Domain.{count}
use Rattle.pool.specs.Lists.{Entry, holding, held, mine, if_so, own, has, added, removed, Every, Pressed}
use Rattle.pool.specs.Calls.{none}
use Rattle.pool.specs.inside.Records.{total}

-- one contour in front of others, or not
module _ (e : Entry) where
  own_if : (q : ℕ) (t : Bool) (x : List Entry) → own q (if_so t e x) ≡ if_so (t && mine q e) e (own q x)
  unfolding own
  own_if q true x = refl
  own_if q false x = refl

  removed_if : (p : ℕ) (t : Bool) (x : List Entry) → removed p (if_so t e x) ≡ if_so (t && (has p x || not (mine p e))) e (removed p x)
  unfolding removed
  removed_if p true x = refl
  removed_if p false x = refl

  has_if : (p : ℕ) (t : Bool) (x : List Entry) → has p (if_so t e x) ≡ ((t && mine p e) || has p x)
  unfolding has
  has_if p true x = refl
  has_if p false x = refl

  if_append : (t : Bool) (x y z : List Entry) → x ≡ y ++ z → if_so t e x ≡ if_so t e y ++ z
  if_append true x y z h = ap (λ (l : List Entry). e ∷ l) h
  if_append false x y z h = h

  -- a number that grows with each contour grows at most by this one's
  least_if : (f : List Entry → ℕ) (n : ℕ) → ((l : List Entry) → f (e ∷ l) ≡ n + f l) → (t : Bool) (x : List Entry) → f (if_so t e x) ≤ n + f x
  least_if f n h true x = omega (arith, h x)
  least_if f n h false x = omega arith

-- what holds of every contour
module _ (P : Entry → Type 0) where
  pub every_append : (a b : List Entry) → Every P a → Every P b → Every P (a ++ b)
  every_append [] b h k = k
  every_append (e ∷ a) b h k = (h.0, every_append a b h.1 k)

  pub every_split : (a b : List Entry) → Every P (a ++ b) → Every P a × Every P b
  every_split [] b h = (tt, h)
  every_split (e ∷ a) b h = ((h.0, (every_split a b h.1).0), (every_split a b h.1).1)

  pub every_removed : (p : ℕ) (l : List Entry) → Every P l → Every P (removed p l)
  unfolding removed
  every_removed p [] h = tt
  every_removed p (e ∷ l) h = either (has p l || not (mine p e)) (every_removed p l h.1)
    where
      either : (t : Bool) → Every P (removed p l) → Every P (if_so t e (removed p l))
      either true k = (h.0, k)
      either false k = k

-- lists behind each other
pub own-append : (q : ℕ) (a b : List Entry) → own q (a ++ b) ≡ own q a ++ own q b
unfolding own
own-append q [] b = refl
own-append q (e ∷ a) b = if_append e (mine q e) _ _ _ (own-append q a b)

pub held-append : (a b : List Entry) → held (a ++ b) ≡ held a + held b
unfolding held
held-append [] b = omega arith
held-append (e ∷ a) b = omega (arith, held-append a b)

pub total-append : (a b : List Entry) → total (a ++ b) ≡ total a + total b
total-append [] b = omega arith
total-append (e ∷ a) b = omega (arith, total-append a b)

-- a contour that is added: the newest of its press, and nothing to the other
pub own_added : (q : ℕ) (e : Entry) (l : List Entry) → own q (added e l) ≡ own q l ++ if_so (mine q e) e []
unfolding own
own_added q e l = own-append q l (e ∷ [])

-- contours hold their points, and each at least one
pub total_held : (l : List Entry) → total l ≤ held l
unfolding held
total_held [] = omega arith
total_held (e ∷ l) = omega (arith, total_held l)

pub length_held : (l : List Entry) → length l ≤ held l
unfolding held
length_held [] = omega arith
length_held (e ∷ l) = omega (arith, length_held l)

-- a press has a contour exactly if its own are not none
pub none_own : (p : ℕ) (l : List Entry) → none (own p l) ≡ not (has p l)
unfolding own has
none_own p [] = refl
none_own p (e ∷ l) = either (mine p e) (none_own p l)
  where
    either : (t : Bool) → none (own p l) ≡ not (has p l) → none (if_so t e (own p l)) ≡ not (t || has p l)
    either true h = refl
    either false h = h

-- only one of the presses has a contour
apart : (p q : ℕ) (e : Entry) → (q ≡ p → ⊥) → mine p e ≡ true → mine q e ≡ false
apart p q e n h = ne_eqb q e.press (λ k. n (omega (arith, eqb-true p e.press h)))

stays : (h m n : Bool) → (m ≡ true → n ≡ false) → ((h || not m) && n) ≡ n
stays true m n f = refl
stays false true n f = sym (f refl)
stays false false n f = refl

swapped : (a b : Bool) → (a && b) ≡ (b && a)
swapped true true = refl
swapped true false = refl
swapped false true = refl
swapped false false = refl

-- a removal is nothing to the other press
pub removed_others : (p q : ℕ) → (q ≡ p → ⊥) → (l : List Entry) → own q (removed p l) ≡ own q l
unfolding own removed
removed_others p q n [] = refl
removed_others p q n (e ∷ l) =
    own_if e q (has p l || not (mine p e)) (removed p l)
    ∙ ap₂ (λ (b : Bool) (x : List Entry). if_so b e x) (stays (has p l) (mine p e) (mine q e) (apart p q e n)) (removed_others p q n l)

has_own : (p : ℕ) (l : List Entry) → has p (own p l) ≡ has p l
unfolding has own
has_own p [] = refl
has_own p (e ∷ l) = has_if e p (mine p e) (own p l) ∙ ap₂ (λ (a b : Bool). a || b) (twice (mine p e)) (has_own p l)
  where
    twice : (t : Bool) → (t && t) ≡ t
    twice true = refl
    twice false = refl

-- and to the press itself the loss of the newest of its own
pub own_removed : (p : ℕ) (l : List Entry) → own p (removed p l) ≡ removed p (own p l)
unfolding own removed
own_removed p [] = refl
own_removed p (e ∷ l) =
    own_if e p (has p l || not (mine p e)) (removed p l)
    ∙ ap₂ (λ (b : Bool) (x : List Entry). if_so b e x)
    (swapped (has p l || not (mine p e)) (mine p e) ∙ ap (λ (h : Bool). mine p e && (h || not (mine p e))) (sym (has_own p l)))
    (own_removed p l)
    ∙ sym (removed_if e p (mine p e) (own p l))

-- what grows with each contour does not grow by a removal
module _ (p : ℕ) (f : List Entry → ℕ) (size : Entry → ℕ) (grows : (e : Entry) (l : List Entry) → f (e ∷ l) ≡ size e + f l) where
  removed_least : (l : List Entry) → f (removed p l) ≤ f l
  unfolding removed
  removed_least [] = omega arith
  removed_least (e ∷ l) = omega (arith, grows e l, least_if e f (size e) (grows e) (has p l || not (mine p e)) (removed p l), removed_least l)

pub held_removed : (p : ℕ) (l : List Entry) → held (removed p l) ≤ held l
unfolding held
held_removed p l = removed_least p held (λ e. holding (count e.contour)) (λ e k. refl) l

pub total_removed : (p : ℕ) (l : List Entry) → total (removed p l) ≤ total l
total_removed p l = removed_least p total (λ e. count e.contour) (λ e k. refl) l

pub length_removed : (p : ℕ) (l : List Entry) → length (removed p l) ≤ length l
length_removed p l = removed_least p length (λ e. 1) (λ e k. omega arith) l

-- what both hold is what all hold
held_split : (e : Entry) (x y z : List Entry) (k : ℕ) → e.press ≡ k → k ≤ 1 → held x ≡ held y + held z
    → holding (count e.contour) + held x ≡ held (if_so (mine 0 e) e y) + held (if_so (mine 1 e) e z)
unfolding held
held_split e x y z zero d b h = rw (eq-eqb 0 e.press (sym d), ne_eqb 1 e.press (λ f. omega arith)) (omega arith)
held_split e x y z (suc zero) d b h = rw (ne_eqb 0 e.press (λ f. omega arith), eq-eqb 1 e.press (sym d)) (omega arith)
held_split e x y z (suc (suc k)) d b h = absurd (omega arith)

pub held_both : (l : List Entry) → Every Pressed l → held l ≡ held (own 0 l) + held (own 1 l)
unfolding held own
held_both [] h = refl
held_both (e ∷ l) h = held_split e l (own 0 l) (own 1 l) e.press refl h.0 (held_both l h.1)

-- the newest of a press stands between those before it and those of the other behind it
has_none : (p : ℕ) (l : List Entry) → has p l ≡ false → removed p l ≡ l
unfolding has removed
has_none p [] h = refl
has_none p (e ∷ l) h =
    rw (or_right (mine p e) (has p l) h, or_left (mine p e) (has p l) h) (ap (λ (k : List Entry). e ∷ k) (has_none p l (or_right (mine p e) (has p l) h)))

pub has_in : (p : ℕ) (a : List Entry) (e : Entry) (b : List Entry) → mine p e ≡ true → has p (a ++ e ∷ b) ≡ true
unfolding has
has_in p [] e b h = rw h
has_in p (x ∷ a) e b h = rw (has_in p a e b h) (or-true (mine p x))
  where
    or-true : (t : Bool) → (t || true) ≡ true
    or-true true = refl
    or-true false = refl

pub removed_is : (p : ℕ) (a : List Entry) (e : Entry) (b : List Entry) → mine p e ≡ true → has p b ≡ false → removed p (a ++ e ∷ b) ≡ a ++ b
unfolding has removed
removed_is p [] e b h k = rw (k, h) (has_none p b k)
removed_is p (x ∷ a) e b h k = rw (has_in p a e b h) (ap (λ (l : List Entry). x ∷ l) (removed_is p a e b h k))
