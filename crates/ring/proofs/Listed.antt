-- The survivors as a list: neighbours in the ring are neighbours in the list, and what is removed is left out of it.
use Prim.Native.Nat.{ℕ, zero, suc, ◌+◌, ◌-◌, ◌<◌, ◌≤◌}
use native.Mathlib.Omega.{arith}
use mathlib.Core.Path.{◌≡◌, refl, sym, ap, ◌∙◌}
use mathlib.Core.Logic.{⊎_elim}
use mathlib.Core.List.{List, [], ◌∷◌, ◌++◌, append_assoc, append-nil, Memᴰ}
use mathlib.Core.Bool.{Bool}
use lib.ListN.{length, get_or, set, take, drop, drop_of_length-le, get_or-eq_default}
use lib.Seq.{split_at, set_at, take-suc, drop-cons, get_or-take, get_or_at}
use Rattle.ring.specs.Walk.{removed, mark_at, Survivor, survivors_from, survivors, others, last, successor, predecessor, to_go}
use Rattle.ring.specs.Promises.{Rising, would_go}
use Rattle.grid.specs.Neighbours.{preceding, following, leaving_out}
use Rattle.ring.proofs.Branches.{less?}
use Rattle.ring.proofs.Lists.{last-append}
use Rattle.rows.proofs.RowLaws.{any_default}
use Rattle.ring.proofs.Survivors.{survivors_yes, survivors_no, survivors_gap, Parted, parted, listed}
use Rattle.ring.proofs.Neighbours.{others_at}

rising_down : (low low' high : ℕ) (s : List ℕ) → low' ≤ low → Rising low high s → Rising low' high s
rising_down low low' high [] h r = tt
rising_down low low' high (x ∷ s) h r = (omega (arith, r.0), r.1, r.2)

-- Rising positions are no more than there are places.
pub rising_few : (low high : ℕ) (s : List ℕ) → Rising low high s → length s ≤ high - low
rising_few low high [] r = omega arith
rising_few low high (x ∷ s) r = omega (arith, r.0, r.1, rising_few (suc x) high s r.2)

pub survivors_rise : (i high : ℕ) (m : List ℕ) → i + length m ≤ high → Rising i high (survivors_from i m)
unfolding survivors_from
survivors_rise i high [] h = tt
survivors_rise i high (x ∷ m) h =
    let r = survivors_rise (suc i) high m (omega arith) in
    ⊎_elim
    (λ l. rw (survivors_yes i x m l) (omega arith, omega arith, r))
    (λ l. rw (survivors_no i x m l) (rising_down (suc i) i high (survivors_from (suc i) m) (omega arith) r))
    (less? x removed)

-- The elements of a list in a round that starts behind the one at j.
first_round : (s : List ℕ) (j : ℕ) → j < length s → get_or (drop (suc j) s ++ take j s) 0 (get_or s j 0) ≡ following 0 s j
first_round s j h = ⊎_elim
    (λ l. ap (λ t. get_or (t ++ take j s) 0 (get_or s j 0)) (drop-cons s (suc j) 0 l) ∙ any_default s (suc j) 0 (get_or s 0 0) l)
    (λ l. ap (λ t. get_or (t ++ take j s) 0 (get_or s j 0)) (drop_of_length-le s l) ∙ start j h ∙ sym (get_or-eq_default s (get_or s 0 0) l))
    (less? (suc j) (length s))
  where
    start : (j : ℕ) → j < length s → get_or (take j s) 0 (get_or s j 0) ≡ get_or s 0 0
    start zero h = refl
    start (suc i) h = get_or-take (suc i) s 0 (get_or s (suc i) 0) (omega arith) ∙ any_default s 0 _ 0 (omega arith)

last_round : (s : List ℕ) (j : ℕ) → j < length s → last (drop (suc j) s ++ take j s) (get_or s j 0) ≡ preceding 0 s j
last_round [] j h = absurd (omega arith)
last_round (a ∷ s) zero h = let e : suc (length s) - 1 ≡ length s = omega arith in rw (append-nil s, e) (far a s)
  where
    far : (a : ℕ) (s : List ℕ) → last s a ≡ get_or (a ∷ s) (length s) 0
    far a [] = refl
    far a (b ∷ s) = far b s
last_round (a ∷ s) (suc j) h =
    ap (λ t. last (drop (suc j) s ++ t) (get_or s j 0)) (take-suc (a ∷ s) j 0 (omega arith))
    ∙ ap (λ t. last t (get_or s j 0)) (sym (append_assoc (drop (suc j) s) (take j (a ∷ s)) (get_or (a ∷ s) j 0 ∷ [])))
    ∙ last-append (drop (suc j) s ++ take j (a ∷ s)) (get_or (a ∷ s) j 0) [] (get_or s j 0)

-- Position x is the survivor at j of the list.
pub record At (m : List ℕ) (j x : ℕ) : Type 0 where
  pub inside : j < length (survivors m)
  pub stands : get_or (survivors m) j 0 ≡ x
  pub survives : Survivor m x
  pub before : predecessor m x ≡ preceding 0 (survivors m) j
  pub after : successor m x ≡ following 0 (survivors m) j
  pub gone : survivors (set m x removed) ≡ leaving_out (survivors m) j

pub at : (m : List ℕ) (j : ℕ) → j < length (survivors m) → At m j (get_or (survivors m) j 0)
unfolding successor predecessor
at m j h = cut (parted 0 m (take j (survivors m)) (get_or (survivors m) j 0) (drop (suc j) (survivors m)) (split_at (survivors m) j 0 h))
  where
    cut : Parted 0 m (take j (survivors m)) (get_or (survivors m) j 0) (drop (suc j) (survivors m)) → At m j (get_or (survivors m) j 0)
    cut r =
        let s : List ℕ = survivors m in
        let x : ℕ = get_or (survivors m) j 0 in
        let n : length r.low ≡ x = omega (arith, r.position) in
        let o : others m x ≡ drop (suc j) s ++ take j s = ap (λ l. others l x) r.is ∙ others_at r.low r.mark r.high x n ∙ rw (← r.lower, ← r.higher) in
        record {
          inside = h;
          stands = refl;
          survives = rw (ap (λ l. mark_at l x) r.is ∙ get_or_at r.low r.mark r.high removed x n) r.survives;
          before = ap (λ l. last l x) o ∙ last_round s j h;
          after = ap (λ l. get_or l 0 x) o ∙ first_round s j h;
          gone = ap (λ l. survivors (set l x removed)) r.is ∙ ap survivors (set_at r.low r.mark r.high removed x n) ∙ survivors_gap 0 r.low r.high x r.position ∙ rw (← r.lower, ← r.higher);
        }

-- Each survivor stands at some j.
pub position : (m : List ℕ) (x : ℕ) → Survivor m x → (j : ℕ) × At m j x
position m x s = found (listed 0 m x x s (omega arith))
  where
    index : {l : List ℕ} → Memᴰ x l → (j : ℕ) × (j < length l) × (get_or l j 0 ≡ x)
    index (Memᴰ.head e) = (0, omega arith, sym e)
    index (Memᴰ.tail i) = let r = index i in (suc r.0, omega (arith, r.1), r.2)

    found : Memᴰ x (survivors m) → (j : ℕ) × At m j x
    found h = let i = index h in (i.0, rw i.2 at (at m i.0 i.1))

-- The rule says the same of a position in the ring and in the list.
pub to_go_listed : (goes : ℕ → ℕ → ℕ → Bool) {m : List ℕ} {j x : ℕ} → At m j x → to_go goes m x ≡ would_go goes (survivors m) j
to_go_listed goes a = rw (a.before, a.after, a.stands)
