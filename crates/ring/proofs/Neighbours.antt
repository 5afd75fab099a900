-- The others that survive beside a position, its successor and its predecessor, and what a removal does to them.
use Prim.Native.Nat.{ℕ, suc, ◌+◌, ◌-◌, ◌<◌, ◌≤◌, min}
use native.Mathlib.Omega.{arith}
use native.Mathlib.Numerals.{add-one}
use mathlib.Core.Path.{◌≡◌, refl, sym, ap, ap₂, ◌∙◌}
use mathlib.Core.Logic.{◌⊎◌, inl, inr, ⊎_elim}
use mathlib.Core.List.Memᴰ
use mathlib.Core.List.{List, [], ◌∷◌, ◌++◌, append_assoc, append-nil, Memᴰ}
use lib.ListN.{length, get_or, set, take, drop, length-append, length-take, length-drop, get_or-eq_default}
use lib.Seq.{split_at, take_at, drop-append-add, set_at, length-take-le, get_or-take, get_or-drop, get_or_at}
use Rattle.ring.specs.Walk.{removed, mark_at, Survivor, survivors_from, survivors, others, last, successor, predecessor}
use Rattle.ring.proofs.Branches.{less?}
use Rattle.ring.proofs.Lists.{last-append, before_last, cut_cases, mem_cut}
use Rattle.ring.proofs.Marks.{inside}
use Rattle.ring.proofs.Survivors.{Parted, parted, survivors_at, survivors_gap, listed, Same, same_survivors}

-- The others at a position where the row is cut.
pub others_at : (a : List ℕ) (x : ℕ) (b : List ℕ) (p : ℕ) → length a ≡ p → others (a ++ x ∷ b) p ≡ survivors_from (suc p) b ++ survivors_from 0 a
unfolding others
others_at a x b p e =
    let d : drop (suc p) (a ++ x ∷ b) ≡ b = rw (← e, ← add-one) (drop-append-add a (x ∷ b) 1) in
    ap₂ (λ s t. survivors_from (suc p) s ++ survivors_from 0 t) d (take_at a (x ∷ b) p e)

-- q stands among the others at c, behind x and before y: so c stands among those at q, behind y and before x.
pub record Turned (m : List ℕ) (c : ℕ) (x : List ℕ) (q : ℕ) (y : List ℕ) : Type 0 where
  pub survives : Survivor m q
  pub other : q ≡ c → ⊥
  pub from : others m q ≡ y ++ c ∷ x
  pub gone : others (set m c removed) q ≡ y ++ x

pub turned : (m : List ℕ) (c : ℕ) (x : List ℕ) (q : ℕ) (y : List ℕ) → Survivor m c → others m c ≡ x ++ q ∷ y → Turned m c x q y
unfolding others
turned m c x q y s e = ⊎_elim
    (λ i.
    let r = parted (suc c) hi x q i.0 i.1 in
    let f : m ≡ (lo ++ v ∷ r.low) ++ r.mark ∷ r.high = at ∙ up v r in
    let g : set m c removed ≡ (lo ++ removed ∷ r.low) ++ r.mark ∷ r.high = ap (λ l. set l c removed) at ∙ set_at lo v hi removed c len ∙ up removed r in
    let n : (z : ℕ) → length (lo ++ z ∷ r.low) ≡ q = λ z. length-append lo (z ∷ r.low) ∙ omega (arith, r.position, len) in
    record {
      survives = rw (f, get_or_at (lo ++ v ∷ r.low) r.mark r.high removed q (n v)) r.survives;
      other = λ z. omega (arith, r.position);
      from = ap (λ l. others l q) f ∙ others_at (lo ++ v ∷ r.low) r.mark r.high q (n v)
          ∙ rw (survivors_at 0 lo v r.low c (omega (arith, len)) s, ← r.higher, ← r.lower, i.2, append_assoc);
      gone = ap (λ l. others l q) g ∙ others_at (lo ++ removed ∷ r.low) r.mark r.high q (n removed)
          ∙ rw (survivors_gap 0 lo r.low c (omega (arith, len)), ← r.higher, ← r.lower, i.2, append_assoc);
    })
    (λ i.
    let r = parted 0 lo i.0 q y i.2 in
    let k : suc q + length r.high ≡ c = omega (arith, r.position, length-append r.low (r.mark ∷ r.high), ap length r.is, len) in
    let f : m ≡ r.low ++ r.mark ∷ (r.high ++ v ∷ hi) = at ∙ down v r in
    let g : set m c removed ≡ r.low ++ r.mark ∷ (r.high ++ removed ∷ hi) = ap (λ l. set l c removed) at ∙ set_at lo v hi removed c len ∙ down removed r in
    let n : length r.low ≡ q = omega (arith, r.position) in
    record {
      survives = rw (f, get_or_at r.low r.mark (r.high ++ v ∷ hi) removed q n) r.survives;
      other = λ z. omega arith;
      from = ap (λ l. others l q) f ∙ others_at r.low r.mark (r.high ++ v ∷ hi) q n
          ∙ rw (survivors_at (suc q) r.high v hi c k s, ← r.higher, ← r.lower, i.1, append_assoc);
      gone = ap (λ l. others l q) g ∙ others_at r.low r.mark (r.high ++ removed ∷ hi) q n
          ∙ rw (survivors_gap (suc q) r.high hi c k, ← r.higher, ← r.lower, i.1, append_assoc);
    })
    (cut_cases (survivors_from (suc c) hi) (survivors_from 0 lo) x q y e)
  where
    lo : List ℕ
    lo = take c m

    hi : List ℕ
    hi = drop (suc c) m

    v : ℕ
    v = mark_at m c

    len : length lo ≡ c
    len = length-take-le c m (omega (arith, inside m c s))

    at : m ≡ lo ++ v ∷ hi
    at = split_at m c removed (inside m c s)

    up : (z : ℕ) {t : List ℕ} (r : Parted (suc c) hi x q t) → lo ++ z ∷ hi ≡ (lo ++ z ∷ r.low) ++ r.mark ∷ r.high
    up z r = ap (λ l. lo ++ z ∷ l) r.is ∙ sym (append_assoc lo (z ∷ r.low) (r.mark ∷ r.high))

    down : (z : ℕ) {t : List ℕ} (r : Parted 0 lo t q y) → lo ++ z ∷ hi ≡ r.low ++ r.mark ∷ (r.high ++ z ∷ hi)
    down z r = ap (λ l. l ++ z ∷ hi) r.is ∙ append_assoc r.low (r.mark ∷ r.high) (z ∷ hi)

-- Whoever survives beside c stands among the others, and nobody else does.
pub others_has : (m : List ℕ) (c q : ℕ) → Survivor m q → (q ≡ c → ⊥) → Memᴰ q (others m c)
unfolding others
others_has m c q s n = ⊎_elim
    (λ l. Memᴰ.append_right (survivors_from (suc c) (drop (suc c) m)) (listed 0 (take c m) q q (rw (get_or-take c m q removed l) s) (omega arith)))
    (λ l.
    let x : ℕ = q - suc c in
    let e : suc c + x ≡ q = omega arith in
    Memᴰ.append_left (survivors_from 0 (take c m)) (listed (suc c) (drop (suc c) m) x q (rw (get_or-drop (suc c) m x removed, e) s) e))
    (less? q c)

pub others_only : (m : List ℕ) (c q : ℕ) → Survivor m c → Memᴰ q (others m c) → Survivor m q × (q ≡ c → ⊥)
others_only m c q s h =
    let i = mem_cut h in
    let r = turned m c i.0 q i.1 s i.2 in
    (r.survives, r.other)

-- With c itself they are all the survivors.
pub ring-length : (m : List ℕ) (c : ℕ) → Survivor m c → length (survivors m) ≡ suc (length (others m c))
unfolding others
ring-length m c s =
    let hi : List ℕ = survivors_from (suc c) (drop (suc c) m) in
    let lo : List ℕ = survivors_from 0 (take c m) in
    let l : length (take c m) ≡ c = length-take-le c m (omega (arith, inside m c s)) in
    let e : survivors m ≡ lo ++ c ∷ hi = ap survivors (split_at m c removed (inside m c s)) ∙ survivors_at 0 (take c m) (mark_at m c) (drop (suc c) m) c (omega arith) s in
    omega (arith, ap length e, length-append lo (c ∷ hi), length-append hi lo)

-- Either c is alone, or its successor stands first and its predecessor last.
abbrev pub Alone : List ℕ → ℕ → Type 0
Alone m c = others m c ≡ []

pub first_other : (m : List ℕ) (c : ℕ) → Alone m c ⊎ ((y : List ℕ) × (others m c ≡ successor m c ∷ y))
unfolding successor
first_other m c = go (others m c)
  where
    go : (l : List ℕ) → (l ≡ []) ⊎ ((y : List ℕ) × (l ≡ get_or l 0 c ∷ y))
    go [] = inl refl
    go (z ∷ y) = inr (y, refl)

last_other : (m : List ℕ) (c : ℕ) → Alone m c ⊎ ((x : List ℕ) × (others m c ≡ x ++ predecessor m c ∷ []))
unfolding predecessor
last_other m c = go (others m c)
  where
    go : (l : List ℕ) → (l ≡ []) ⊎ ((x : List ℕ) × (l ≡ x ++ last l c ∷ []))
    go [] = inl refl
    go (z ∷ l) = inr (before_last z l)

alone_successor : (m : List ℕ) (c : ℕ) → Alone m c → successor m c ≡ c
unfolding successor
alone_successor m c a = ap (λ l. get_or l 0 c) a

alone_predecessor : (m : List ℕ) (c : ℕ) → Alone m c → predecessor m c ≡ c
unfolding predecessor
alone_predecessor m c a = ap (λ l. last l c) a

module _ (m : List ℕ) (c : ℕ) (s : Survivor m c) where
  pub not_alone : 1 < length (survivors m) → Alone m c → ⊥
  not_alone h a = omega (arith, ring-length m c s, ap length a)

  pub successor_survives : Survivor m (successor m c)
  successor_survives = ⊎_elim (λ a. rw (alone_successor m c a) s) (λ i. (turned m c [] _ i.0 s i.1).survives) (first_other m c)

  pub predecessor_survives : Survivor m (predecessor m c)
  predecessor_survives = ⊎_elim (λ a. rw (alone_predecessor m c a) s) (λ i. (turned m c i.0 _ [] s i.1).survives) (last_other m c)

  -- One step forward turns the ring by one.
  pub forward : successor m c ∷ others m (successor m c) ≡ others m c ++ c ∷ []
  forward = ⊎_elim
      (λ a. rw (alone_successor m c a) (ap (λ l. c ∷ l) a ∙ sym (ap (λ l. l ++ c ∷ []) a)))
      (λ i. ap (λ l. successor m c ∷ l) (turned m c [] _ i.0 s i.1).from ∙ sym (ap (λ l. l ++ c ∷ []) i.1))
      (first_other m c)

  -- The neighbours after c is removed. Its own become neighbours of each other.
  module _ (more : Alone m c → ⊥) where
    pub gap_others : (x : List ℕ) × (others m c ≡ x ++ predecessor m c ∷ []) × (others (set m c removed) (predecessor m c) ≡ x)
    gap_others = ⊎_elim
        (λ a. absurd (more a))
        (λ i. (i.0, i.1, (turned m c i.0 _ [] s i.1).gone))
        (last_other m c)

    pub predecessor_other : predecessor m c ≡ c → ⊥
    predecessor_other = let i = gap_others in (turned m c i.0 _ [] s i.1).other

    pub gap_successor : successor (set m c removed) (predecessor m c) ≡ successor m c
    unfolding successor
    gap_successor = let i = gap_others in ap (λ l. get_or l 0 (predecessor m c)) i.2 ∙ go i.0 ∙ sym (ap (λ l. get_or l 0 c) i.1)
      where
        go : (x : List ℕ) → get_or x 0 (predecessor m c) ≡ get_or (x ++ predecessor m c ∷ []) 0 c
        go [] = refl
        go (z ∷ x) = refl

    pub gap_predecessor : predecessor (set m c removed) (successor m c) ≡ predecessor m c
    unfolding predecessor
    gap_predecessor = ⊎_elim
        (λ a. absurd (more a))
        (λ i. ap (λ l. last l (successor m c)) ((turned m c [] _ i.0 s i.1).gone ∙ append-nil i.0) ∙ sym (ap (λ l. last l c) i.1))
        (first_other m c)

  -- All other survivors keep theirs.
  module _ (q : ℕ) (t : Survivor m q) (n : q ≡ c → ⊥) where
    pub far_successor : (q ≡ predecessor m c → ⊥) → successor (set m c removed) q ≡ successor m q
    unfolding successor predecessor
    far_successor k = let i = mem_cut (others_has m c q t n) in go i.0 i.1 i.2 (turned m c i.0 q i.1 s i.2)
      where
        go : (x y : List ℕ) → others m c ≡ x ++ q ∷ y → Turned m c x q y → get_or (others (set m c removed) q) 0 q ≡ get_or (others m q) 0 q
        go x [] e r = absurd (k (sym (ap (λ l. last l c) e ∙ last-append x q [] c)))
        go x (z ∷ y) e r = rw (r.gone, r.from)

    pub far_predecessor : (q ≡ successor m c → ⊥) → predecessor (set m c removed) q ≡ predecessor m q
    unfolding successor predecessor
    far_predecessor k = let i = mem_cut (others_has m c q t n) in go i.0 i.1 i.2 (turned m c i.0 q i.1 s i.2)
      where
        go : (x y : List ℕ) → others m c ≡ x ++ q ∷ y → Turned m c x q y → last (others (set m c removed) q) q ≡ last (others m q) q
        go [] y e r = absurd (k (sym (ap (λ l. get_or l 0 c) e)))
        go (z ∷ x) y e r = rw (r.gone, r.from, last-append y z x q, last-append y c (z ∷ x) q)

-- The neighbours go by who survives alone.
pub same_others : {m m' : List ℕ} → Same m m' → (p : ℕ) → others m p ≡ others m' p
unfolding others
same_others {m} {m'} x p = ap₂ ◌++◌ (same_survivors (suc p) high) (same_survivors 0 low)
  where
    beyond : (l : List ℕ) (q : ℕ) → p ≤ q → mark_at (take p l) q ≡ removed
    beyond l q h = get_or-eq_default (take p l) removed (omega (arith, length-take p l))

    high : Same (drop (suc p) m) (drop (suc p) m')
    high = record {
      long = length-drop (suc p) m ∙ ap (λ l. l - suc p) x.long ∙ sym (length-drop (suc p) m');
      alike = λ q. rw (get_or-drop (suc p) m q removed, get_or-drop (suc p) m' q removed) (x.alike (suc p + q));
    }

    low : Same (take p m) (take p m')
    low = record {
      long = length-take p m ∙ ap (min p) x.long ∙ sym (length-take p m');
      alike = λ q. ⊎_elim
          (λ h. rw (get_or-take p m q removed h, get_or-take p m' q removed h) (x.alike q))
          (λ h. rw (beyond m q h, beyond m' q h))
          (less? q p);
    }

pub same_successor : {m m' : List ℕ} → Same m m' → (p : ℕ) → successor m p ≡ successor m' p
unfolding successor
same_successor x p = ap (λ l. get_or l 0 p) (same_others x p)

pub same_predecessor : {m m' : List ℕ} → Same m m' → (p : ℕ) → predecessor m p ≡ predecessor m' p
unfolding predecessor
same_predecessor x p = ap (λ l. last l p) (same_others x p)
