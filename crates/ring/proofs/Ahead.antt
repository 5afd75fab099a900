-- The run of positions ahead that have yet to be decided. When it is used up nothing goes any more, and one round ends the walk.
use Prim.Native.Nat.{ℕ, suc, ◌+◌, ◌*◌, ◌<◌, ◌≤◌}
use native.Mathlib.Omega.{arith}
use mathlib.Core.Path.{◌≡◌, refl, sym, ap, ◌∙◌}
use mathlib.Core.Logic.{◌⊎◌, inl, inr, ⊎_elim}
use mathlib.Core.List.{List, [], ◌∷◌, ◌++◌, append_assoc, append-nil, head-eq_of_cons-eq, tail-eq_of_cons-eq, Memᴰ}
use mathlib.Core.Bool.{Bool, true, false}
use lib.ListN.{length, set, length-append}
use lib.Seq.{get_or-set_same, get_or-set_other}
use Rattle.ring.specs.Walk.{unmarked, marked, removed, mark_at, Survivor, survivors, others, successor, predecessor, remove, fresh, to_go}
use Rattle.ring.specs.Promises.{NoneToGo}
use Rattle.ring.proofs.Branches.{same?, true_false}
use Rattle.ring.proofs.Lists.{Each, cut_cases}
use Rattle.ring.proofs.Marks.{inside, count_some, fresh_survives, fresh_at}
use Rattle.ring.proofs.Survivors.{Same, same_refl, same_sym, same_survivor, same_survivors, fresh_count}
use Rattle.ring.proofs.Neighbours.{turned, others_has, others_only, ring-length, first_other, not_alone, forward, gap_others, far_successor, far_predecessor, same_others, same_successor, same_predecessor}
use Rattle.ring.proofs.Changes.{same_set, same_remove, gap_survives, remove_keeps, remove_predecessor, remove_successor, remove_counts}
use Rattle.ring.proofs.Moments.{Reached, begun, stepped, stayed, went, moment}

-- The ring from p on has every survivor.
pub ring_has : (m : List ℕ) (p q : ℕ) → Survivor m q → Memᴰ q (p ∷ others m p)
ring_has m p q s = ⊎_elim (λ e. mathlib.Core.List.Memᴰ.head e) (λ n. mathlib.Core.List.Memᴰ.tail (others_has m p q s n)) (same? q p)

-- An other behind the successor isn't the successor.
behind_successor : (m : List ℕ) (c : ℕ) (y : List ℕ) (q : ℕ) → Survivor m c → others m c ≡ successor m c ∷ y → Memᴰ q y → q ≡ successor m c → ⊥
behind_successor m c y q s e h =
    let t = turned m c [] (successor m c) y s e in
    (others_only m (successor m c) q t.survives (rw t.from (mathlib.Core.List.Memᴰ.append_left (c ∷ []) h))).1

module _ (goes : ℕ → ℕ → ℕ → Bool) where
  pub same_to_go : {m m' : List ℕ} → Same m m' → (q : ℕ) → to_go goes m' q ≡ to_go goes m q
  same_to_go x q = rw (same_predecessor x q, same_successor x q)

  -- After a removal the rule says the same of every vertex but the two beside the gap.
  far_to_go : (m : List ℕ) (c q : ℕ) → Survivor m c → Survivor m q → (q ≡ c → ⊥) → (q ≡ predecessor m c → ⊥) → (q ≡ successor m c → ⊥)
      → to_go goes (remove m c) q ≡ to_go goes m q
  far_to_go m c q s t n i j = same_to_go (same_remove m c) q ∙ rw (far_predecessor m c s q t n j, far_successor m c s q t n i)

  module _ (n v : ℕ) where
    -- Of the ring from p on, the positions of a run are unmarked, and no vertex behind the run would go.
    record Ahead (m : List ℕ) (p : ℕ) : Type 0 where
      pub run : List ℕ
      pub rest : List ℕ
      pub ring : p ∷ others m p ≡ run ++ rest
      pub pending : Each (λ x. mark_at m x ≡ unmarked) run
      pub would_stay : Each (λ x. to_go goes m x ≡ false) rest
      pub room : v + (length run + 2 * length (survivors m)) ≤ 3 * n

    -- No vertex would go, and behind the way that remains all are marked.
    record Settling (m : List ℕ) (p : ℕ) : Type 0 where
      pub way : List ℕ
      pub past : List ℕ
      pub ring : p ∷ others m p ≡ way ++ past
      pub none_to_go : NoneToGo goes m
      pub all_marked : Each (λ x. mark_at m x ≡ marked) past
      pub room : v + (length way + length (survivors m)) ≤ 3 * n

  -- The run is used up.
  used_up : (n v : ℕ) (m : List ℕ) (p : ℕ) → Survivor m p → (a : Ahead n v m p) → a.run ≡ [] → Settling n v m p
  used_up n v m p s a e = record {
    way = p ∷ others m p;
    past = [];
    ring = sym (append-nil _);
    none_to_go = λ q t. a.would_stay q (rw (a.ring ∙ ap (λ l. l ++ a.rest) e) at (ring_has m p q t));
    all_marked = λ x h. absurd (mathlib.Core.List.Memᴰ.not-nil h);
    room = omega (arith, a.room, ring-length m p s, ap length e);
  }

  -- A step forward from a position that is marked now.
  settling_on : (n v : ℕ) (m m' : List ℕ) (p q : ℕ) → Survivor m p → Same m m'
      → ((x : ℕ) → mark_at m x ≡ marked → mark_at m' x ≡ marked) → mark_at m' p ≡ marked → mark_at m q ≡ unmarked → Settling n v m p → Settling n (suc v) m' (successor m p)
  settling_on n v m m' p q s x keep now due a = go a.way refl
    where
      go : (w : List ℕ) → a.way ≡ w → Settling n (suc v) m' (successor m p)
      go [] e =
          let z : mark_at m q ≡ marked = a.all_marked q (rw (a.ring ∙ ap (λ l. l ++ a.past) e) at (ring_has m p q (omega arith))) in
          absurd (omega arith)
      go (z ∷ w) e =
          let f : p ∷ others m p ≡ z ∷ (w ++ a.past) = a.ring ∙ ap (λ l. l ++ a.past) e in
          record {
            way = w;
            past = a.past ++ p ∷ [];
            ring = ap (λ l. successor m p ∷ l) (sym (same_others x (successor m p))) ∙ forward m p s ∙ ap (λ l. l ++ p ∷ []) (tail-eq_of_cons-eq f) ∙ append_assoc w a.past (p ∷ []);
            none_to_go = λ r t. same_to_go x r ∙ a.none_to_go r (same_survivor (same_sym x) r t);
            all_marked = λ r h. ⊎_elim (λ i. keep r (a.all_marked r i)) (λ i. let z : r ≡ p = mathlib.Core.List.Memᴰ.eq_of_singleton i in rw z now) (mathlib.Core.List.Memᴰ.append_cases a.past h);
            room = omega (arith, a.room, ap length e, ap length (same_survivors 0 x));
          }

  module _ (n v : ℕ) (m : List ℕ) (c : ℕ) (s : Survivor m c) where
    -- The vertex at the head of the run stays.
    ahead_stay : mark_at m c ≡ unmarked → to_go goes m c ≡ false → (w : List ℕ) (a : Ahead n v m c) → a.run ≡ c ∷ w → Ahead n (suc v) (set m c marked) (successor m c)
    ahead_stay due t w a e =
        let x = same_set m c marked s (omega arith) in
        let f : others m c ≡ w ++ a.rest = tail-eq_of_cons-eq (a.ring ∙ ap (λ l. l ++ a.rest) e) in
        record {
          run = w;
          rest = a.rest ++ c ∷ [];
          ring = ap (λ l. successor m c ∷ l) (sym (same_others x (successor m c))) ∙ forward m c s ∙ ap (λ l. l ++ c ∷ []) f ∙ append_assoc w a.rest (c ∷ []);
          pending = λ q h.
              let o = others_only m c q s (rw f (mathlib.Core.List.Memᴰ.append_left a.rest h)) in
              get_or-set_other m c q marked removed o.1 ∙ a.pending q (rw e (mathlib.Core.List.Memᴰ.tail h));
          would_stay = λ q h. same_to_go x q ∙ ⊎_elim
              (λ i. a.would_stay q i)
              (λ i. let z : q ≡ c = mathlib.Core.List.Memᴰ.eq_of_singleton i in rw z t)
              (mathlib.Core.List.Memᴰ.append_cases a.rest h);
          room = omega (arith, a.room, ap length e, ap length (same_survivors 0 x));
        }

    -- It goes: its predecessor and its successor are undecided again.
    module _ (due : mark_at m c ≡ unmarked) (large : 3 < length (survivors m)) where
      more : others m c ≡ [] → ⊥
      more = not_alone m c s (omega arith)

      -- The others but the predecessor, and but the successor.
      record Between (x y : List ℕ) : Type 0 where
        pub front : others m c ≡ x ++ predecessor m c ∷ []
        pub back : others m c ≡ successor m c ∷ y
        pub gone : others (set m c removed) (predecessor m c) ≡ x

      between : (x : List ℕ) × (y : List ℕ) × Between x y
      between = let i = gap_others m c s more in ⊎_elim
          (λ a. absurd (more a))
          (λ j. (i.0, j.0, record { front = i.1; back = j.1; gone = i.2 }))
          (first_other m c)

      far : {x y : List ℕ} → Between x y → (q : ℕ) → Memᴰ q x → Memᴰ q y → to_go goes m q ≡ false → to_go goes (remove m c) q ≡ false
      far {x} {y} b q i j t =
          let o = others_only m c q s (rw b.front (mathlib.Core.List.Memᴰ.append_left (predecessor m c ∷ []) i)) in
          let k : q ≡ predecessor m c → ⊥ = (others_only (set m c removed) (predecessor m c) q (gap_survives m c s more) (rw b.gone i)).1 in
          far_to_go m c q s o.0 o.1 k (behind_successor m c y q s b.back j) ∙ t

      module _ {x y : List ℕ} (b : Between x y) (w : List ℕ) (a : Ahead n v m c) (e : a.run ≡ c ∷ w) where
        split : others m c ≡ w ++ a.rest
        split = tail-eq_of_cons-eq (a.ring ∙ ap (λ l. l ++ a.rest) e)

        -- The new run is the predecessor and what is chosen of the others.
        run_from : (u t : List ℕ) → x ≡ u ++ t → length u ≤ suc (length w) → Each (λ q. mark_at (remove m c) q ≡ unmarked) u
            → Each (λ q. Memᴰ q a.rest × Memᴰ q y) t → Ahead n (suc v) (remove m c) (predecessor m c)
        run_from u t d short pend old = record {
          run = predecessor m c ∷ u;
          rest = t;
          ring = ap (λ l. predecessor m c ∷ l) (sym (same_others (same_remove m c) (predecessor m c)) ∙ b.gone ∙ d);
          pending = λ q h. ⊎_elim
              (λ i. let z : q ≡ predecessor m c = i in rw z (remove_predecessor m c s more))
              (λ i. pend q i)
              (mathlib.Core.List.Memᴰ.cases_cons h);
          would_stay = λ q h. far b q (rw d (mathlib.Core.List.Memᴰ.append_right u h)) (old q h).1 (a.would_stay q (old q h).0);
          room = omega (arith, a.room, ap length e, remove_counts m c due);
        }

        pending_still : Each (λ q. mark_at (remove m c) q ≡ unmarked) w
        pending_still q h = remove_keeps m c q (a.pending q (rw e (mathlib.Core.List.Memᴰ.tail h))) (others_only m c q s (rw split (mathlib.Core.List.Memᴰ.append_left a.rest h))).1

      -- The run ended with the predecessor; or it ends before it, and has the successor or hasn't.
      ahead_go : (w : List ℕ) (a : Ahead n v m c) → a.run ≡ c ∷ w → Ahead n (suc v) (remove m c) (predecessor m c)
      ahead_go w a e =
          let i = between in
          ⊎_elim
          (λ k. run_from i.2 w a e i.0 [] (sym (append-nil i.0)) (omega (arith, ap length k.1, length-append i.0 (predecessor m c ∷ k.0)))
          (λ q h. pending_still i.2 w a e q (rw k.1 (mathlib.Core.List.Memᴰ.append_left (predecessor m c ∷ k.0) h)))
          (λ q h. absurd (mathlib.Core.List.Memᴰ.not-nil h)))
          (λ k. short i.0 i.1 i.2 w a e k.0 k.1 k.2)
          (cut_cases w a.rest i.0 (predecessor m c) [] (sym (split i.2 w a e) ∙ i.2.front))
        where
          short : (x y : List ℕ) (b : Between x y) (w : List ℕ) (a : Ahead n v m c) → a.run ≡ c ∷ w → (t : List ℕ) → x ≡ w ++ t → a.rest ≡ t ++ predecessor m c ∷ []
              → Ahead n (suc v) (remove m c) (predecessor m c)
          short x y b [] a e [] d r = absurd (omega (arith, ring-length m c s, ap length (b.front ∙ ap (λ l. l ++ predecessor m c ∷ []) d)))
          short x y b [] a e (z ∷ t) d r =
              let f : z ∷ (t ++ predecessor m c ∷ []) ≡ successor m c ∷ y = sym (b.front ∙ ap (λ l. l ++ predecessor m c ∷ []) d) ∙ b.back in
              run_from b [] a e (z ∷ []) t d (omega arith)
              (λ q h. let g : q ≡ successor m c = mathlib.Core.List.Memᴰ.eq_of_singleton h ∙ head-eq_of_cons-eq f in rw g (remove_successor m c s more))
              (λ q h. (rw r (mathlib.Core.List.Memᴰ.tail (mathlib.Core.List.Memᴰ.append_left (predecessor m c ∷ []) h)), rw (tail-eq_of_cons-eq f) at (mathlib.Core.List.Memᴰ.append_left (predecessor m c ∷ []) h)))
          short x y b (z ∷ w) a e t d r =
              let f : z ∷ (w ++ a.rest) ≡ successor m c ∷ y = sym (split b (z ∷ w) a e) ∙ b.back in
              run_from b (z ∷ w) a e (z ∷ w) t d (omega arith) (pending_still b (z ∷ w) a e)
              (λ q h. let g : Memᴰ q a.rest = rw r (mathlib.Core.List.Memᴰ.append_left (predecessor m c ∷ []) h) in (g, rw (tail-eq_of_cons-eq f) at (mathlib.Core.List.Memᴰ.append_right w g)))

  module _ (n : ℕ) (big : 3 ≤ n) where
    abbrev Swept : ℕ → List ℕ → ℕ → Type 0
    Swept v m p = Ahead n v m p ⊎ Settling n v m p

    -- The run is empty, or p is its head.
    head_cases : {v : ℕ} {m : List ℕ} {p : ℕ} (a : Ahead n v m p) → (a.run ≡ []) ⊎ ((w : List ℕ) × (a.run ≡ p ∷ w))
    head_cases {v} {m} {p} a = cases a.run a.ring
      where
        cases : (l : List ℕ) → p ∷ others m p ≡ l ++ a.rest → (l ≡ []) ⊎ ((w : List ℕ) × (l ≡ p ∷ w))
        cases [] e = inl refl
        cases (z ∷ w) e = inr (w, ap (λ x. x ∷ w) (sym (head-eq_of_cons-eq e)))

    swept : {v : ℕ} {m : List ℕ} {p k : ℕ} → Reached goes n v m p k → Swept v m p
    swept begun =
        let s = fresh_survives n 0 (omega arith) in
        inl (record {
          run = 0 ∷ others (fresh n) 0;
          rest = [];
          ring = sym (append-nil _);
          pending = λ q h. fresh_at n q (⊎_elim (λ (z : q ≡ 0). rw z s) (λ i. (others_only (fresh n) 0 q s i).0) (mathlib.Core.List.Memᴰ.cases_cons h));
          would_stay = λ q h. absurd (mathlib.Core.List.Memᴰ.not-nil h);
          room = omega (arith, ring-length (fresh n) 0 s, fresh_count n);
        })
    swept (stepped {v = v} {m = m} {p = p} r z e) =
        let s = (moment goes n big r).on in
        let q = count_some unmarked m z in
        let on : Settling n v m p → Swept (suc v) m (successor m p) = λ x. inr (settling_on n v m m p q.0 s (same_refl m) (λ x h. h) e q.1 x) in
        ⊎_elim
        (λ a. ⊎_elim
        (λ i. on (used_up n v m p s a i))
        (λ i. absurd (omega (arith, e, a.pending p (rw i.1 (mathlib.Core.List.Memᴰ.head refl)))))
        (head_cases a))
        on
        (swept r)
    swept (stayed {v = v} {m = m} {p = p} r e t) =
        let s = (moment goes n big r).on in
        let on : Settling n v m p → Swept (suc v) (set m p marked) (successor m p) = λ x. inr (settling_on n v m (set m p marked) p p s (same_set m p marked s (omega arith))
        (λ q h. get_or-set_other m p q marked removed (λ z. omega (arith, rw z at h)) ∙ h) (get_or-set_same m p marked removed (inside m p s)) e x) in
        ⊎_elim
        (λ a. ⊎_elim
        (λ i. on (used_up n v m p s a i))
        (λ i. inl (ahead_stay n v m p s e t i.0 a i.1))
        (head_cases a))
        on
        (swept r)
    swept (went {v = v} {m = m} {p = p} r e t h) =
        let s = (moment goes n big r).on in
        ⊎_elim
        (λ a. ⊎_elim
        (λ i. true_false t ((used_up n v m p s a i).none_to_go p s))
        (λ i. inl (ahead_go n v m p s e h i.0 a i.1))
        (head_cases a))
        (λ x. true_false t (x.none_to_go p s))
        (swept r)

    -- At a marked position nothing goes any more.
    pub idle : {v : ℕ} {m : List ℕ} {p k : ℕ} → Reached goes n v m p k → mark_at m p ≡ marked → NoneToGo goes m
    idle {v} {m} {p} r e = ⊎_elim
        (λ a. ⊎_elim
        (λ i. (used_up n v m p (moment goes n big r).on a i).none_to_go)
        (λ i. absurd (omega (arith, e, a.pending p (rw i.1 (mathlib.Core.List.Memᴰ.head refl)))))
        (head_cases a))
        (λ x. x.none_to_go)
        (swept r)

    -- The visits so far and the survivors are at most 3 n together, and less where a vertex goes.
    pub visits_room : {v : ℕ} {m : List ℕ} {p k : ℕ} → Reached goes n v m p k → v + length (survivors m) ≤ 3 * n
    visits_room r = ⊎_elim (λ a. omega (arith, a.room)) (λ x. omega (arith, x.room)) (swept r)

    pub going_room : {v : ℕ} {m : List ℕ} {p k : ℕ} → Reached goes n v m p k → to_go goes m p ≡ true → v + 2 * length (survivors m) < 3 * n
    going_room {v} {m} {p} r t =
        let s = (moment goes n big r).on in
        ⊎_elim
        (λ a. ⊎_elim
        (λ i. true_false t ((used_up n v m p s a i).none_to_go p s))
        (λ i. omega (arith, a.room, ap length i.1))
        (head_cases a))
        (λ x. true_false t (x.none_to_go p s))
        (swept r)

    -- Up to the first idle visit each has decided.
    since : {v : ℕ} {m : List ℕ} {p k : ℕ} → Reached goes n v m p k → (v ≡ k) ⊎ NoneToGo goes m
    since begun = inl refl
    since (stepped r z e) = inr (idle r e)
    since (stayed {m = m} {p = p} r e t) = ⊎_elim
        (λ i. inl (ap suc i))
        (λ x. let y = same_set m p marked (moment goes n big r).on (omega arith) in inr (λ q s. same_to_go y q ∙ x q (same_survivor (same_sym y) q s)))
        (since r)
    since (went {m = m} {p = p} r e t h) = ⊎_elim (λ i. inl (ap suc i)) (λ x. true_false t (x p (moment goes n big r).on)) (since r)

    -- So where a vertex goes, every visit so far has.
    pub busy : {v : ℕ} {m : List ℕ} {p k : ℕ} → Reached goes n v m p k → to_go goes m p ≡ true → v ≡ k
    busy {m = m} {p = p} r t = ⊎_elim (λ i. i) (λ x. true_false t (x p (moment goes n big r).on)) (since r)
