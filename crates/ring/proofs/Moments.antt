-- The moments that a walk reaches, what holds at each of them, and how it ends.
use Prim.Native.Nat.{ℕ, zero, suc, ◌+◌, ◌*◌, ◌<◌, ◌≤◌}
use native.Mathlib.Omega.{arith}
use mathlib.Core.Path.{◌≡◌, refl, sym, ap, ◌∙◌}
use mathlib.Core.Logic.{⊎_elim}
use mathlib.Core.List.{List}
use mathlib.Core.Bool.{Bool, true, false}
use lib.ListN.{length, set, length-set, length-replicate}
use Rattle.ring.specs.Walk.{unmarked, marked, mark_at, Survivor, survivors, successor, predecessor, occurrences, remove, Tally, End, Stage, tally, counted, fresh, start, to_go, look, looks}
use Rattle.ring.specs.Walk.End.{kept, collapsed}
use Rattle.ring.specs.Walk.Stage.{under_way, ended}
use Rattle.ring.specs.inside.Rows.{first_marked, FirstStand}
use Rattle.ring.proofs.Branches.{which, same?, less?}
use Rattle.ring.proofs.Marks.{fresh_unmarked, fresh_survives, first_none, first_more, first_due}
use Rattle.ring.proofs.Survivors.{same_survivor, fresh_count}
use Rattle.ring.proofs.Neighbours.{successor_survives, not_alone, same_successor, same_predecessor}
use Rattle.ring.proofs.Changes.{same_set, first_same, same_remove, length_remove, gap_survives, mark_counts, remove_counts}
use Rattle.ring.proofs.Filling.{fresh_next}
use Rattle.ring.proofs.Looks.{look_done, look_over, look_stay, look_go, look_fall}

module _ (goes : ℕ → ℕ → ℕ → Bool) (n : ℕ) where
  -- The moments of a walk: after v visits it is at position p with marks m, and has made k decisions.
  pub data Reached : ℕ → List ℕ → ℕ → ℕ → Type 0 where
    begun : Reached 0 (fresh n) 0 0
    stepped : {v : ℕ} {m : List ℕ} {p k : ℕ} → Reached v m p k → (occurrences unmarked m ≡ 0 → ⊥) → mark_at m p ≡ marked → Reached (suc v) m (successor m p) k
    stayed : {v : ℕ} {m : List ℕ} {p k : ℕ} → Reached v m p k → mark_at m p ≡ unmarked → to_go goes m p ≡ false → Reached (suc v) (set m p marked) (successor m p) (suc k)
    went : {v : ℕ} {m : List ℕ} {p k : ℕ} → Reached v m p k → mark_at m p ≡ unmarked → to_go goes m p ≡ true → 3 < length (survivors m)
        → Reached (suc v) (remove m p) (predecessor m p) (suc k)

  pub reached_is : {v : ℕ} {m : List ℕ} {p k : ℕ} → Reached v m p k → looks goes v (start n) ≡ under_way m p (tally k v)
  unfolding looks
  reached_is begun = refl
  reached_is (stepped {v = v} {m = m} {p = p} {k = k} r z e) = ap (look goes) (reached_is r) ∙ look_over goes m p (tally k v) z e
  reached_is (stayed {v = v} {m = m} {p = p} {k = k} r e t) = ap (look goes) (reached_is r) ∙ look_stay goes m p (tally k v) e t
  reached_is (went {v = v} {m = m} {p = p} {k = k} r e t h) = ap (look goes) (reached_is r) ∙ look_go goes m p (tally k v) e t h

  -- Where the first k positions stand, k visits mark them and come to position k.
  pub reached_first : (k : ℕ) → k < n → FirstStand goes n k → Reached k (first_marked n k) k k
  reached_first zero h f = rw (first_none n) begun
  reached_first (suc k) h f =
      let s = first_same n k (omega arith) in
      let q : successor (first_marked n k) k ≡ suc k = sym (same_successor s k) ∙ fresh_next n k h in
      let t : to_go goes (first_marked n k) k ≡ false = rw (← same_predecessor s k, ← same_successor s k) (f k (omega arith)) in
      rw (first_more n k (omega arith), q) at (stayed (reached_first k (omega arith) (λ j l. f j (omega arith))) (first_due n k (omega arith)) t)

  -- There are no more decisions than visits.
  pub decided_visits : {v : ℕ} {m : List ℕ} {p k : ℕ} → Reached v m p k → k ≤ v
  decided_visits begun = omega arith
  decided_visits (stepped r z e) = omega (arith, decided_visits r)
  decided_visits (stayed r e t) = omega (arith, decided_visits r)
  decided_visits (went r e t h) = omega (arith, decided_visits r)

  module _ (big : 3 ≤ n) where
    -- What holds at every moment. Each decision is paid for by three for each survivor and one for each unmarked position.
    pub record Moment (m : List ℕ) (p k : ℕ) : Type 0 where
      pub long : length m ≡ n
      pub on : Survivor m p
      pub many : 3 ≤ length (survivors m)
      pub paid : k + (3 * length (survivors m) + occurrences unmarked m) ≤ 4 * n

    pub moment : {v : ℕ} {m : List ℕ} {p k : ℕ} → Reached v m p k → Moment m p k
    moment begun = record {
      long = length-replicate n unmarked;
      on = fresh_survives n 0 (omega arith);
      many = omega (arith, fresh_count n);
      paid = omega (arith, fresh_count n, fresh_unmarked n);
    }
    moment (stepped {m = m} {p = p} r z e) =
        let x = moment r in
        record { long = x.long; on = successor_survives m p x.on; many = x.many; paid = x.paid }
    moment (stayed {m = m} {p = p} r e t) =
        let x = moment r in
        let c = mark_counts m p e in
        record {
          long = length-set m p marked ∙ x.long;
          on = same_survivor (same_set m p marked x.on (omega arith)) (successor m p) (successor_survives m p x.on);
          many = omega (arith, x.many);
          paid = omega (arith, x.paid);
        }
    moment (went {m = m} {p = p} r e t h) =
        let x = moment r in
        let c = remove_counts m p e in
        record {
          long = length_remove m p ∙ x.long;
          on = same_survivor (same_remove m p) (predecessor m p) (gap_survives m p x.on (not_alone m p x.on (omega arith)));
          many = omega arith;
          paid = omega (arith, x.paid);
        }

    -- How a walk ends: at a moment at which all survivors are marked, or at one at which a vertex of the last three is to go.
    pub record Kept (s : List ℕ) (t : Tally) : Type 0 where
      pub m : List ℕ
      pub p : ℕ
      pub reached : Reached t.turns m p t.decisions
      pub all_marked : occurrences unmarked m ≡ 0
      pub is : s ≡ survivors m

    pub record Collapsed (t : Tally) : Type 0 where
      pub visits : ℕ
      pub m : List ℕ
      pub p : ℕ
      pub made : ℕ
      pub reached : Reached visits m p made
      pub due : mark_at m p ≡ unmarked
      pub goes_now : to_go goes m p ≡ true
      pub few : length (survivors m) ≤ 3
      pub is : t ≡ counted (tally made visits)

    abbrev pub Finish : End → Tally → Type 0
    Finish (kept s) t = Kept s t
    Finish collapsed t = Collapsed t

    abbrev pub History : ℕ → Stage → Type 0
    History v (under_way m p t) = (t.turns ≡ v) × Reached t.turns m p t.decisions
    History v (ended w) = Finish w.end w.tally

    looked : (v : ℕ) (m : List ℕ) (p : ℕ) (t : Tally) → History v (under_way m p t) → History (suc v) (look goes (under_way m p t))
    looked v m p t (now, r) = ⊎_elim
        (λ z. rw (look_done goes m p t z) (record { m = m; p = p; reached = r; all_marked = z; is = refl }))
        (λ z. ⊎_elim
        (λ e. rw (look_over goes m p t z e) (ap suc now, stepped r z e))
        (λ n. decided (omega (arith, (moment r).on)))
        (same? (mark_at m p) marked))
        (same? (occurrences unmarked m) 0)
      where
        decided : mark_at m p ≡ unmarked → History (suc v) (look goes (under_way m p t))
        decided e = ⊎_elim
            (λ g. ⊎_elim
            (λ h. rw (look_go goes m p t e g h) (ap suc now, went r e g h))
            (λ h. rw (look_fall goes m p t e g h) (record { visits = t.turns; m = m; p = p; made = t.decisions; reached = r; due = e; goes_now = g; few = h; is = refl }))
            (less? 3 (length (survivors m))))
            (λ g. rw (look_stay goes m p t e g) (ap suc now, stayed r e g))
            (which (to_go goes m p))

    pub history : (v : ℕ) → History v (looks goes v (start n))
    unfolding look looks
    history zero = (refl, begun)
    history (suc v) = next (looks goes v (start n)) (history v)
      where
        next : (w : Stage) → History v w → History (suc v) (look goes w)
        next (under_way m p t) x = looked v m p t x
        next (ended w) x = x
