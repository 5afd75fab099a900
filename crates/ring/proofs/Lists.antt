-- What the kit lacks of lists: the last element, where two ways to cut one list meet, and membership by a cut.
use Prim.Native.Nat.{ℕ}
use mathlib.Core.Path.{◌≡◌, refl, sym, ap}
use mathlib.Core.Logic.{◌⊎◌, inl, inr, ⊎_elim}
use mathlib.Core.List.{List, [], ◌∷◌, ◌++◌, Memᴰ, head-eq_of_cons-eq, tail-eq_of_cons-eq}
use Rattle.ring.specs.Walk.{last}

-- Each element of a list has a property.
abbrev pub Each : (ℕ → Type 0) → List ℕ → Type 0
Each P l = (x : ℕ) → Memᴰ x l → P x

pub last-append : (l : List ℕ) (x : ℕ) (r : List ℕ) (d : ℕ) → last (l ++ x ∷ r) d ≡ last r x
last-append [] x r d = refl
last-append (y ∷ l) x r d = last-append l x r y

-- A list that isn't empty ends with its last element.
pub before_last : (x : ℕ) (l : List ℕ) → (r : List ℕ) × (x ∷ l ≡ r ++ last l x ∷ [])
before_last x [] = ([], refl)
before_last x (y ∷ l) = let i = before_last y l in (x ∷ i.0, ap (λ t. x ∷ t) i.1)

-- An element at which a joined list is cut stands in the first part or in the second.
abbrev pub Cut : (a b x : List ℕ) (q : ℕ) (y : List ℕ) → Type 0
Cut a b x q y = ((t : List ℕ) × (a ≡ x ++ q ∷ t) × (y ≡ t ++ b)) ⊎ ((t : List ℕ) × (x ≡ a ++ t) × (b ≡ t ++ q ∷ y))

pub cut_cases : (a b x : List ℕ) (q : ℕ) (y : List ℕ) → a ++ b ≡ x ++ q ∷ y → Cut a b x q y
cut_cases [] b x q y e = inr (x, refl, e)
cut_cases (z ∷ a) b [] q y e = inl (a, ap (λ w. w ∷ a) (head-eq_of_cons-eq e), sym (tail-eq_of_cons-eq e))
cut_cases (z ∷ a) b (w ∷ x) q y e =
    let h : z ≡ w = head-eq_of_cons-eq e in
    ⊎_elim
    (λ i. inl (i.0, rw (h, i.1), i.2))
    (λ i. inr (i.0, rw (h, i.1), i.2))
    (cut_cases a b x q y (tail-eq_of_cons-eq e))

-- A list can be cut at each of its elements.
pub mem_cut : {q : ℕ} {l : List ℕ} → Memᴰ q l → (x : List ℕ) × (y : List ℕ) × (l ≡ x ++ q ∷ y)
mem_cut (Memᴰ.head {xs = t} e) = ([], t, ap (λ z. z ∷ t) (sym e))
mem_cut (Memᴰ.tail {x = z} i) = let r = mem_cut i in (z ∷ r.0, r.1, ap (λ t. z ∷ t) r.2)
