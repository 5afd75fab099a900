-- The last round of a walk: how many positions there are up to the last unmarked one, and that a step forward is one of them.
use Prim.Native.Nat.{ℕ, zero, suc, ◌+◌, ◌-◌, ◌^◌, ◌<◌, ◌≤◌}
use native.Mathlib.Omega.{arith}
use mathlib.Core.Path.{◌≡◌, refl, sym, ap, ap₂, ◌∙◌}
use mathlib.Core.Logic.{⊎_elim}
use mathlib.Core.List.Memᴰ
use mathlib.Core.List.{List, [], ◌∷◌, ◌++◌, append_assoc, Memᴰ}
use mathlib.Core.Bool.{Bool, true, false}
use lib.ListN.{length, get_or, length-append}
use lib.Dec.{eqb}
use borrow.Author.Tests.{eq-eqb, ne_eqb}
use Rattle.ring.specs.Walk.{unmarked, marked, removed, mark_at, Survivor, survivors, others, last, successor, predecessor, occurrences, fresh}
use Rattle.ring.specs.Promises.{with_front, to_last_unmarked, idle_round}
use Rattle.ring.specs.declared.Ending.{Ending}
use Rattle.ring.specs.inside.Rows.{Idling, Halted, turns_of}
use Rattle.ring.proofs.Lists.{Each, last-append, before_last}
use Rattle.ring.proofs.Marks.{recount, count_some, fresh_survives, fresh_at}
use Rattle.ring.proofs.Survivors.{Same, survivor_count, fresh_count}
use Rattle.ring.proofs.Neighbours.{turned, others_only, ring-length, not_alone, forward, gap_others, same_others}
use Rattle.ring.proofs.Looks.{some_unmarked}
use Rattle.ring.proofs.Ahead.{ring_has}
use Rattle.ring.proofs.Listed.{rising_few, survivors_rise}

-- No element of a list is unmarked.
abbrev pub NoneUnmarked : List ℕ → List ℕ → Type 0
NoneUnmarked m l = Each (λ x. mark_at m x ≡ unmarked → ⊥) l

front_some : (b : Bool) (w : ℕ) → 0 < w → with_front b w ≡ suc w
front_some true w h = refl
front_some false zero h = absurd (omega arith)
front_some false (suc w) h = refl

module _ (m : List ℕ) where
  -- Behind the last unmarked position none counts.
  way_none : (l : List ℕ) → NoneUnmarked m l → to_last_unmarked m l ≡ 0
  unfolding to_last_unmarked
  way_none [] h = refl
  way_none (q ∷ l) h = rw (ne_eqb _ _ (h q (Memᴰ.head refl)), way_none l (λ x i. h x (Memᴰ.tail i)), to_last_unmarked)

  way_end : (l y : List ℕ) → NoneUnmarked m y → to_last_unmarked m (l ++ y) ≡ to_last_unmarked m l
  unfolding to_last_unmarked
  way_end [] y h = way_none y h
  way_end (q ∷ l) y h = ap (with_front (eqb (mark_at m q) unmarked)) (way_end l y h)

  -- Up to an unmarked position all count.
  way_some : (l : List ℕ) (x : ℕ) → Memᴰ x l → mark_at m x ≡ unmarked → 0 < to_last_unmarked m l
  unfolding to_last_unmarked
  way_some [] x x4 u = elim x4 [ ]
  way_some (q ∷ l) x (Memᴰ.head e) u = let z : mark_at m q ≡ unmarked = rw (← e) u in rw (eq-eqb _ _ z, to_last_unmarked) (omega arith)
  way_some (q ∷ l) x (Memᴰ.tail i) u = rw (front_some _ _ (way_some l x i u), to_last_unmarked) (omega arith)

  way_more : (q : ℕ) (l : List ℕ) (x : ℕ) → Memᴰ x (q ∷ l) → mark_at m x ≡ unmarked → to_last_unmarked m (q ∷ l) ≡ suc (to_last_unmarked m l)
  unfolding to_last_unmarked
  way_more q l x (Memᴰ.head e) u = let z : mark_at m q ≡ unmarked = rw (← e) u in rw (eq-eqb _ _ z, to_last_unmarked)
  way_more q l x (Memᴰ.tail i) u = front_some (eqb (mark_at m q) unmarked) _ (way_some l x i u)

  -- So where the last unmarked position is known, the way is.
  pub way_at : (x : List ℕ) (q : ℕ) (y : List ℕ) → mark_at m q ≡ unmarked → NoneUnmarked m y → to_last_unmarked m (x ++ q ∷ y) ≡ suc (length x)
  unfolding to_last_unmarked
  way_at [] q y u h = rw (eq-eqb _ _ u, to_last_unmarked) (ap suc (way_none y h))
  way_at (z ∷ x) q y u h = let r = way_at x q y u h in front_some (eqb (mark_at m z) unmarked) _ (omega arith) ∙ ap suc r

way_same : (m m' l : List ℕ) → Each (λ x. mark_at m' x ≡ mark_at m x) l → to_last_unmarked m' l ≡ to_last_unmarked m l
unfolding to_last_unmarked
way_same m m' [] h = refl
way_same m m' (q ∷ l) h = ap₂ (λ (a w : ℕ). with_front (eqb a unmarked) w) (h q (Memᴰ.head refl)) (way_same m m' l (λ x i. h x (Memᴰ.tail i)))

module _ (m : List ℕ) (p : ℕ) where
  -- Where all survivors are marked there is none.
  pub round_done : occurrences unmarked m ≡ 0 → idle_round m p ≡ 0
  round_done z = way_none m (p ∷ others m p) (λ x i e. some_unmarked m x e z)

  -- A round has no more positions than the ring.
  pub round_short : Survivor m p → idle_round m p ≤ length (survivors m)
  unfolding to_last_unmarked
  round_short s = rw (ring-length m p s) (few (p ∷ others m p))
    where
      front : (b : Bool) (w : ℕ) → with_front b w ≤ suc w
      front true w = omega arith
      front false zero = omega arith
      front false (suc w) = omega arith

      few : (l : List ℕ) → to_last_unmarked m l ≤ length l
      few [] = omega arith
      few (q ∷ l) = omega (arith, front (eqb (mark_at m q) unmarked) (to_last_unmarked m l), few l)

  -- A step forward from a position that is marked then makes it one less.
  pub round_on : (m' : List ℕ) → Survivor m p → Same m m' → ((q : ℕ) → (q ≡ p → ⊥) → mark_at m' q ≡ mark_at m q) → mark_at m' p ≡ marked → (occurrences unmarked m ≡ 0 → ⊥)
      → idle_round m p ≡ suc (idle_round m' (successor m p))
  round_on m' s x else now some =
      let q = count_some unmarked m some in
      let ring : successor m p ∷ others m' (successor m p) ≡ others m p ++ p ∷ [] = ap (λ l. successor m p ∷ l) (sym (same_others x (successor m p))) ∙ forward m p s in
      let end : NoneUnmarked m' (p ∷ []) = λ r i u. let z : r ≡ p = Memᴰ.eq_of_singleton i in omega (arith, now, rw z at u) in
      way_more m p (others m p) q.0 (ring_has m p q.0 (omega (arith, q.1))) q.1
      ∙ ap suc (sym (ap (to_last_unmarked m') ring ∙ way_end m' (others m p) (p ∷ []) end ∙ way_same m m' (others m p) (λ r i. else r (others_only m p r s i).1)))

-- In a new ring all positions are unmarked, so the round has them all.
pub fresh_idle : (n : ℕ) → 0 < n → idle_round (fresh n) 0 ≡ n
unfolding to_last_unmarked
fresh_idle n h =
    let s = fresh_survives n 0 h in
    all (fresh n) (0 ∷ others (fresh n) 0) (λ q i. fresh_at n q (⊎_elim (λ (z : q ≡ 0). rw z s) (λ j. (others_only (fresh n) 0 q s j).0) (Memᴰ.cases_cons i)))
    ∙ sym (ring-length (fresh n) 0 s) ∙ fresh_count n
  where
    all : (m l : List ℕ) → Each (λ x. mark_at m x ≡ unmarked) l → to_last_unmarked m l ≡ length l
    all m [] h = refl
    all m (q ∷ l) h = rw (eq-eqb _ _ (h q (Memᴰ.head refl)), to_last_unmarked) (ap suc (all m l (λ x i. h x (Memᴰ.tail i))))

-- Backward along the ring from p no position behind one at q is unmarked, and up to that one there are so many.
pub record Backward (m : List ℕ) (p turns q : ℕ) : Type 0 where
  pub before : List ℕ
  pub behind : List ℕ
  pub ring : others m p ≡ before ++ q ∷ behind
  pub none : NoneUnmarked m behind
  pub turns_is : turns ≡ 2 + length before

module _ {m prev : List ℕ} {p remaining : ℕ} (x : Idling m prev p remaining) where
  pub idling_on : Survivor m p
  idling_on = omega (arith, x.met)

  several : 1 < length (survivors m)
  several = let z = x.some in omega (arith, survivor_count 0 m, recount m p marked removed x.met (omega arith) marked)

  pub back_start : (q : ℕ) → q ≡ get_or prev p 0 → Backward m p remaining q
  back_start q e =
      let i = gap_others m p idling_on (not_alone m p idling_on several) in
      let f : q ≡ predecessor m p = e ∙ x.to_predecessor p idling_on in
      record {
        before = i.0;
        behind = [];
        ring = rw f i.1;
        none = λ y h. absurd (Memᴰ.not-nil h);
        turns_is = omega (arith, x.remaining_is, ring-length m p idling_on, ap length i.1, length-append i.0 (predecessor m p ∷ []));
      }

  module _ {turns q : ℕ} (b : Backward m p turns q) where
    pub back_on : Survivor m q
    back_on = (turned m p b.before q b.behind idling_on b.ring).survives

    -- The search goes on past a position that isn't unmarked.
    pub back_more : (mark_at m q ≡ unmarked → ⊥) → (r : ℕ) → r ≡ get_or prev q 0 → Backward m p (turns - 1) r
    unfolding predecessor
    back_more n r e = go b.before refl
      where
        behind : NoneUnmarked m (q ∷ b.behind)
        behind y h = λ u. ⊎_elim (λ (z : y ≡ q). n (rw (← z) u)) (λ i. b.none y i u) (Memᴰ.cases_cons h)

        go : (l : List ℕ) → b.before ≡ l → Backward m p (turns - 1) r
        go [] f =
            let w = count_some unmarked m x.some in
            ⊎_elim
            (λ (z : w.0 ≡ p). absurd (omega (arith, x.met, rw z at w.1)))
            (λ (i : Memᴰ w.0 (others m p)). absurd (behind w.0 (rw (b.ring ∙ ap (λ l. l ++ q ∷ b.behind) f) at i) w.1))
            (Memᴰ.cases_cons (ring_has m p w.0 (omega (arith, w.1))))
        go (y ∷ l) f =
            let i = before_last y l in
            let t = turned m p b.before q b.behind idling_on b.ring in
            let z : r ≡ last l y = e ∙ x.to_predecessor q back_on ∙ ap (λ l. last l q) t.from ∙ last-append b.behind p b.before q ∙ ap (λ l. last l p) f in
            record {
              before = i.0;
              behind = q ∷ b.behind;
              ring = rw z (b.ring ∙ ap (λ l. l ++ q ∷ b.behind) (f ∙ i.1) ∙ append_assoc i.0 (last l y ∷ []) (q ∷ b.behind));
              none = behind;
              turns_is = omega (arith, b.turns_is, ap length f, ap length i.1, length-append i.0 (last l y ∷ []));
            }

    -- It ends at the last unmarked one.
    pub back_all : mark_at m q ≡ unmarked → turns ≡ idle_round m p
    back_all e = b.turns_is ∙ sym (ap (λ l. to_last_unmarked m (p ∷ l)) b.ring ∙ way_at m (p ∷ b.before) q b.behind e b.none ∙ omega arith)

-- The turns of a walk that met a marked position.
module _ {m prev : List ℕ} {e : Ending} (x : Halted m prev e) where
  -- Where none is unmarked each of them decided.
  pub all_decided : occurrences unmarked m ≡ 0 → e.decisions ≡ turns_of e m
  all_decided z = omega (arith, round_done m e.at z)

  pub turns_fit : e.decisions + idle_round m e.at < 2 ^ 64
  turns_fit = omega (arith, x.small, round_short m e.at (omega (arith, x.met)), rising_few 0 (length m) (survivors m) (survivors_rise 0 (length m) m (omega arith)))
