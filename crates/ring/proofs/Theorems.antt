-- What holds of the walk of every ring of n positions, for any rule.
use Prim.Native.Nat.{ℕ, suc, ◌+◌, ◌-◌, ◌*◌, ◌<◌, ◌≤◌}
use native.Mathlib.Omega.{arith}
use mathlib.Core.Path.{◌≡◌, refl, sym, ap, ap₂, ◌∙◌}
use mathlib.Core.Logic.{⊎_elim}
use mathlib.Core.List.{List}
use mathlib.Core.Bool.{Bool}
use lib.ListN.{length, get_or}
use Rattle.ring.specs.Walk.{unmarked, marked, mark_at, survivors, occurrences, Tally, End, Walked, tally, counted, ending, fresh, start, looks, walk}
use Rattle.ring.specs.Walk.End.{kept, collapsed}
use Rattle.ring.specs.Walk.Stage.{under_way, ended}
use Rattle.ring.specs.Promises.{Rising, idle_round, Clean, NoneToGo, Preserved, LastThree}
use Rattle.ring.specs.inside.Rows.{first_marked, FirstStand}
use Rattle.ring.proofs.Branches.{same?, less?}
use Rattle.ring.proofs.Marks.{fresh_unmarked}
use Rattle.ring.proofs.Survivors.{same_survivors}
use Rattle.ring.proofs.Changes.{same_set, same_remove}
use Rattle.ring.proofs.Looks.{some_unmarked}
use Rattle.ring.proofs.Moments.{Reached, begun, stepped, stayed, went, reached_is, reached_first, decided_visits, moment, Kept, Collapsed, Finish, history}
use Rattle.ring.proofs.Ahead.{idle, visits_room, going_room, busy}
use Rattle.ring.proofs.Rounds.{fresh_idle}
use Rattle.ring.proofs.Ends.{walk_few, ended_looks, none_to_go_answer, kept_after, fallen_after}
use Rattle.ring.proofs.Listed.{survivors_rise, at, position, to_go_listed}

module _ (goes : ℕ → ℕ → ℕ → Bool) (n : ℕ) where
  -- The walk of three positions or more has ended after 3 n visits and one more look.
  pub ends : 3 ≤ n → looks goes (suc (3 * n)) (start n) ≡ ended (walk goes n)
  ends big = ended_looks goes n big

  past : (big : 3 ≤ n) → Finish goes n big (walk goes n).end (walk goes n).tally
  past big = rw (ends big) at (history goes n big (suc (3 * n)))

  -- It takes at most 4 n - 9 decisions, kept or collapsed; under three positions none.
  pub ends_in_4n_9 : (walk goes n).tally.decisions ≤ 4 * n - 9
  ends_in_4n_9 = ⊎_elim
      (λ few. rw (walk_few goes n few) (omega arith))
      (λ big. within big (walk goes n).end (walk goes n).tally (past big))
      (less? n 3)
    where
      within : (big : 3 ≤ n) (e : End) (t : Tally) → Finish goes n big e t → t.decisions ≤ 4 * n - 9
      within big (kept s) t x = let y = moment goes n big x.reached in omega (arith, y.many, y.paid)
      within big collapsed t x =
          let y = moment goes n big x.reached in
          let z : occurrences unmarked x.m ≡ 0 → ⊥ = some_unmarked x.m x.p x.due in
          omega (arith, y.many, y.paid, ap (λ (t : Tally). t.decisions) x.is)

  -- A decision is a turn.
  pub decisions_at_most_turns : (walk goes n).tally.decisions ≤ (walk goes n).tally.turns
  decisions_at_most_turns = ⊎_elim
      (λ few. rw (walk_few goes n few) (omega arith))
      (λ big. within big (walk goes n).end (walk goes n).tally (past big))
      (less? n 3)
    where
      within : (big : 3 ≤ n) (e : End) (t : Tally) → Finish goes n big e t → t.decisions ≤ t.turns
      within big (kept s) t x = decided_visits goes n x.reached
      within big collapsed t x = rw x.is (omega (arith, decided_visits goes n x.reached))

  -- What each removal preserves is preserved at every moment.
  preserved : (big : 3 ≤ n) {X : Type 0} (quantity : List ℕ → X) → Preserved goes n quantity → {v : ℕ} {m : List ℕ} {p k : ℕ} → Reached goes n v m p k
      → quantity (survivors m) ≡ quantity (survivors (fresh n))
  preserved big quantity keeps begun = refl
  preserved big quantity keeps (stepped r z e) = preserved big quantity keeps r
  preserved big quantity keeps (stayed {m = m} {p = p} r e t) =
      ap quantity (sym (same_survivors 0 (same_set m p marked (omega arith) (omega arith)))) ∙ preserved big quantity keeps r
  preserved big quantity keeps (went {m = m} {p = p} r e t h) =
      let y = moment goes n big r in
      let a = position m p y.on in
      ap quantity (sym (same_survivors 0 (same_remove m p)) ∙ a.1.gone)
      ∙ keeps (survivors m) a.0 (survivors_rise 0 n m (omega (arith, y.long))) h a.1.inside (sym (to_go_listed goes a.1) ∙ t)
      ∙ preserved big quantity keeps r

  module _ {s : List ℕ} (is : (walk goes n).end ≡ kept s) where
    big : 3 ≤ n
    big = ⊎_elim (λ few. absurd (never (ap (λ (w : Walked). w.end) (sym (walk_few goes n few)) ∙ is))) (λ h. h) (less? n 3)
      where
        never : collapsed ≡ kept s → ⊥
        never e = let z : ◌≡◌ {A = ℕ} 0 1 = cc in omega arith

    end : Kept goes n big s (walk goes n).tally
    end = rw is at (past big)

    -- The survivors of a ring that is kept are positions below n, in rising order.
    pub kept_rising : Rising 0 n s
    kept_rising = rw end.is (survivors_rise 0 n end.m (omega (arith, (moment goes n big end.reached).long)))

    -- There are at least three of them.
    pub kept_at_least_three : 3 ≤ length s
    kept_at_least_three = rw end.is (moment goes n big end.reached).many

    -- No survivor would go with its final neighbours.
    pub kept_clean : Clean goes s
    kept_clean = rw end.is (λ j h. let a = at end.m j h in sym (to_go_listed goes a) ∙ idle goes n big end.reached all (get_or (survivors end.m) j 0) a.survives)
      where
        all : mark_at end.m end.p ≡ marked
        all = ⊎_elim
            (λ z. absurd (some_unmarked end.m end.p z end.all_marked))
            (λ z. omega (arith, (moment goes n big end.reached).on))
            (same? (mark_at end.m end.p) unmarked)

    -- What each removal preserves is preserved.
    pub kept_preserves : {X : Type 0} (quantity : List ℕ → X) → Preserved goes n quantity → quantity s ≡ quantity (survivors (fresh n))
    kept_preserves quantity keeps = ap quantity end.is ∙ preserved big quantity keeps end.reached

    -- It was kept within 3 n visits, less one for each survivor; one more look sees that all are marked.
    pub kept_in_3n_visits : looks goes (suc (3 * n - length s)) (start n) ≡ ended (walk goes n)
    kept_in_3n_visits =
        let w : ending (kept (survivors end.m)) (walk goes n).tally ≡ walk goes n = ap (λ (e : End). ending e (walk goes n).tally) (ap kept (sym end.is) ∙ sym is) in
        rw end.is (kept_after goes n big end.reached end.all_marked _ (omega (arith, visits_room goes n big end.reached)) ∙ ap ended w)

    -- Its turns are those visits.
    pub kept_in_3n_turns : (walk goes n).tally.turns + length s ≤ 3 * n
    kept_in_3n_turns = rw end.is (visits_room goes n big end.reached)

  -- Where the first k positions stand, k looks mark them and come to position k, after as many decisions.
  pub front_marked : (k : ℕ) → k < n → FirstStand goes n k → looks goes k (start n) ≡ under_way (first_marked n k) k (tally k k)
  front_marked k h f = reached_is goes n (reached_first goes n k h f)

  module _ (big : 3 ≤ n) where
    -- Where no vertex of the ring would go, all is kept, after n decisions in n turns.
    pub unchanged_after_n : NoneToGo goes (fresh n) → walk goes n ≡ ending (kept (survivors (fresh n))) (tally n n)
    unchanged_after_n still =
        let e : 0 + occurrences unmarked (fresh n) ≡ n = omega (arith, fresh_unmarked n) in
        let f : 0 + idle_round (fresh n) 0 ≡ n = omega (arith, fresh_idle n (omega arith)) in
        none_to_go_answer goes n big begun still ∙ ap₂ (λ (k v : ℕ). ending (kept (survivors (fresh n))) (tally k v)) e f

    module _ (is : (walk goes n).end ≡ collapsed) where
      fall : Collapsed goes n big (walk goes n).tally
      fall = rw is at (past big)

      -- A ring collapses with three positions remaining, of which one would go, and what each removal preserves is preserved.
      pub collapsed_at_three : {X : Type 0} (quantity : List ℕ → X) → Preserved goes n quantity → LastThree goes n quantity
      collapsed_at_three quantity keeps =
          let y = moment goes n big fall.reached in
          let a = position fall.m fall.p y.on in
          record {
            rest = survivors fall.m;
            rising = survivors_rise 0 n fall.m (omega (arith, y.long));
            three = omega (arith, y.many, fall.few);
            j = a.0;
            inside = omega (arith, a.1.inside, fall.few);
            goes_now = sym (to_go_listed goes a.1) ∙ fall.goes_now;
            same = preserved big quantity keeps fall.reached;
          }

      -- It collapsed within 3 n visits, less two for each of the three.
      pub collapsed_in_3n_visits : looks goes (3 * n - 6) (start n) ≡ ended (walk goes n)
      collapsed_in_3n_visits =
          let y = moment goes n big fall.reached in
          let z = going_room goes n big fall.reached fall.goes_now in
          let w : ending collapsed (counted (tally fall.made fall.visits)) ≡ walk goes n =
          ap (ending collapsed) (sym fall.is) ∙ ap (λ (e : End). ending e (walk goes n).tally) (sym is) in
          fallen_after goes n big fall.reached fall.due fall.goes_now fall.few _ (omega (arith, y.many)) ∙ ap ended w

      -- Its turns are those visits.
      pub collapsed_in_3n_turns : (walk goes n).tally.turns + 6 ≤ 3 * n
      collapsed_in_3n_turns = rw fall.is (omega (arith, (moment goes n big fall.reached).many, going_room goes n big fall.reached fall.goes_now))

      -- A ring that collapses has no idle turn: each of them decided.
      pub collapsed_without_idle : (walk goes n).tally.turns ≡ (walk goes n).tally.decisions
      collapsed_without_idle = rw fall.is (ap suc (busy goes n big fall.reached fall.goes_now))

    -- There are at most 3 n - 3 turns, kept or collapsed.
    pub turns_at_most_3n_3 : (walk goes n).tally.turns + 3 ≤ 3 * n
    turns_at_most_3n_3 = within (walk goes n).end refl
      where
        within : (e : End) → (walk goes n).end ≡ e → (walk goes n).tally.turns + 3 ≤ 3 * n
        within (kept s) is = omega (arith, kept_in_3n_turns is, kept_at_least_three is)
        within collapsed is = omega (arith, collapsed_in_3n_turns is)

    -- After v looks a walk is under way, at position p with marks m.
    module _ (v : ℕ) {m : List ℕ} {p : ℕ} {t : Tally} (now : looks goes v (start n) ≡ under_way m p t) where
      told : (t.turns ≡ v) × Reached goes n t.turns m p t.decisions
      told = rw now at (history goes n big v)

      reached : Reached goes n t.turns m p t.decisions
      reached = told.1

      -- Each look so far was a turn.
      pub turns_are_looks : t.turns ≡ v
      turns_are_looks = told.0

      -- If it is at a marked position, nothing goes any more.
      pub idle_means_none_to_go : mark_at m p ≡ marked → NoneToGo goes m
      idle_means_none_to_go e = idle goes n big reached e

      -- So what survives now is kept, each unmarked position is decided once more, and the walk goes round up to the last of them.
      pub idle_answer : mark_at m p ≡ marked → walk goes n ≡ ending (kept (survivors m)) (tally (t.decisions + occurrences unmarked m) (t.turns + idle_round m p))
      idle_answer e = none_to_go_answer goes n big reached (idle_means_none_to_go e)

      -- The visits so far, decisions and steps over marked positions alike, are at most 3 n less the survivors.
      pub visits_at_most_3n : v + length (survivors m) ≤ 3 * n
      visits_at_most_3n = omega (arith, turns_are_looks, visits_room goes n big reached)

  -- There are at most 5 n turns, whatever n is: under three positions none.
  pub turns_at_most_5n : (walk goes n).tally.turns ≤ 5 * n
  turns_at_most_5n = ⊎_elim
      (λ few. rw (walk_few goes n few) (omega arith))
      (λ big. omega (arith, turns_at_most_3n_3 big))
      (less? n 3)
