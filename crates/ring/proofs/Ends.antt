-- A walk ends within its looks, and its answer is known as soon as no vertex would go, or one of the last three goes.
use Prim.Native.Nat.{ℕ, zero, suc, ◌+◌, ◌-◌, ◌*◌, ◌<◌, ◌≤◌}
use native.Mathlib.Omega.{arith}
use mathlib.Core.Path.{◌≡◌, refl, sym, ap, ap₂, ◌∙◌}
use mathlib.Core.Logic.{⊎_elim}
use mathlib.Core.List.{List}
use mathlib.Core.Bool.{Bool, true, false}
use lib.ListN.{length, set}
use lib.Seq.{get_or-set_same, get_or-set_other}
use borrow.Author.Tests.{lt-ltb, le-ltb}
use Rattle.ring.specs.Walk.{unmarked, marked, removed, mark_at, Survivor, survivors, successor, occurrences, Tally, Walked, Stage, tally, ending, start, come_to, to_go, look, looks, walk}
use Rattle.ring.specs.Walk.End.{kept, collapsed}
use Rattle.ring.specs.Walk.Stage.{under_way, ended}
use Rattle.ring.specs.Promises.{NoneToGo, idle_round}
use Rattle.ring.proofs.Branches.{same?}
use Rattle.ring.proofs.Marks.{inside}
use Rattle.ring.proofs.Survivors.{Same, same_refl, same_trans, same_sym, same_survivor, same_survivors}
use Rattle.ring.proofs.Neighbours.{successor_survives}
use Rattle.ring.proofs.Changes.{same_set, mark_counts}
use Rattle.ring.proofs.Looks.{look_done, look_over, look_stay, look_fall}
use Rattle.ring.proofs.Moments.{Reached, reached_is, moment, history}
use Rattle.ring.proofs.Ahead.{visits_room, same_to_go}
use Rattle.ring.proofs.Rounds.{round_done, round_on}

module _ (goes : ℕ → ℕ → ℕ → Bool) where
  -- Where no vertex would go, each unmarked one is decided once more, up to the last of them, and all survivors are kept.
  module _ (m₀ : List ℕ) (p₀ : ℕ) (t₀ : Tally) (still : NoneToGo goes m₀) where
    abbrev due : Tally
    due = tally (t₀.decisions + occurrences unmarked m₀) (t₀.turns + idle_round m₀ p₀)

    record Meanwhile (m : List ℕ) (p : ℕ) (t : Tally) : Type 0 where
      pub same : Same m₀ m
      pub on : Survivor m p
      pub sum : t.decisions + occurrences unmarked m ≡ t₀.decisions + occurrences unmarked m₀
      pub way : t.turns + idle_round m p ≡ t₀.turns + idle_round m₀ p₀

    abbrev After : Stage → Type 0
    After (under_way m p t) = Meanwhile m p t
    After (ended w) = w ≡ ending (kept (survivors m₀)) due

    after_look : (m : List ℕ) (p : ℕ) (t : Tally) → Meanwhile m p t → After (look goes (under_way m p t))
    after_look m p t x = ⊎_elim
        (λ z.
        let sum : t.decisions ≡ t₀.decisions + occurrences unmarked m₀ = omega (arith, x.sum) in
        let way : t.turns ≡ t₀.turns + idle_round m₀ p₀ = omega (arith, x.way, round_done m p z) in
        rw (look_done goes m p t z) (ap₂ (λ (s : List ℕ) (i : Tally). ending (kept s) i) (sym (same_survivors 0 x.same)) (ap₂ tally sum way)))
        (λ z. ⊎_elim
        (λ e. rw (look_over goes m p t z e) (record {
          same = x.same;
          on = successor_survives m p x.on;
          sum = x.sum;
          way = omega (arith, x.way, round_on m p m x.on (same_refl m) (λ q n. refl) e z);
        }))
        (λ d. decided z (omega (arith, x.on)))
        (same? (mark_at m p) marked))
        (same? (occurrences unmarked m) 0)
      where
        decided : (occurrences unmarked m ≡ 0 → ⊥) → mark_at m p ≡ unmarked → After (look goes (under_way m p t))
        decided z e =
            let g : to_go goes m p ≡ false = same_to_go goes x.same p ∙ still p (same_survivor (same_sym x.same) p x.on) in
            let y = same_set m p marked x.on (omega arith) in
            rw (look_stay goes m p t e g) (record {
              same = same_trans x.same y;
              on = same_survivor y (successor m p) (successor_survives m p x.on);
              sum = omega (arith, x.sum, mark_counts m p e);
              way = omega (
                arith,
                x.way,
                round_on m p (set m p marked) x.on y (λ q n. get_or-set_other m p q marked removed n) (get_or-set_same m p marked removed (inside m p x.on)) z,
              );
            })

    after : Survivor m₀ p₀ → (i : ℕ) → After (looks goes i (under_way m₀ p₀ t₀))
    unfolding looks look
    after s zero = record { same = same_refl m₀; on = s; sum = refl; way = refl }
    after s (suc i) = next (looks goes i (under_way m₀ p₀ t₀)) (after s i)
      where
        next : (w : Stage) → After w → After (look goes w)
        next (under_way m q t) x = after_look m q t x
        next (ended w) x = x

  looks_add : (i v t : ℕ) → i + v ≡ t → (w : Stage) → looks goes t w ≡ looks goes i (looks goes v w)
  unfolding looks
  looks_add zero v t e w = let z : t ≡ v = omega arith in ap (λ u. looks goes u w) z
  looks_add (suc i) v zero e w = absurd (omega arith)
  looks_add (suc i) v (suc t) e w = ap (look goes) (looks_add i v t (omega arith) w)

  looks_rest : (i : ℕ) (w : Stage) → look goes w ≡ w → looks goes i w ≡ w
  unfolding looks
  looks_rest zero w e = refl
  looks_rest (suc i) w e = ap (look goes) (looks_rest i w e) ∙ e

  module _ (n : ℕ) where
    -- What has ended after v looks is the same after more of them.
    ended_since : (v t : ℕ) → v ≤ t → (w : Stage) → looks goes v (start n) ≡ w → look goes w ≡ w → looks goes t (start n) ≡ w
    ended_since v t h w e f = looks_add (t - v) v t (omega arith) (start n) ∙ ap (looks goes (t - v)) e ∙ looks_rest (t - v) w f

    pub walk_few : n < 3 → walk goes n ≡ ending collapsed (tally 0 0)
    unfolding walk
    walk_few h = rw (lt-ltb n 3 h, walk)

    pub walk_many : 3 ≤ n → walk goes n ≡ come_to (looks goes (suc (3 * n)) (start n))
    unfolding walk
    walk_many h = rw (le-ltb n 3 h, walk)

    module _ (big : 3 ≤ n) where
      -- After its looks the walk isn't under way any more.
      not_under_way : (m : List ℕ) (p : ℕ) (t : Tally) → looks goes (suc (3 * n)) (start n) ≡ under_way m p t → ⊥
      not_under_way m p t e = let h = rw e at (history goes n big (suc (3 * n))) in omega (arith, h.0, visits_room goes n big h.1)

      pub ended_looks : looks goes (suc (3 * n)) (start n) ≡ ended (walk goes n)
      ended_looks = go (looks goes (suc (3 * n)) (start n)) refl ∙ ap ended (sym (walk_many big))
        where
          go : (w : Stage) → looks goes (suc (3 * n)) (start n) ≡ w → w ≡ ended (come_to w)
          go (under_way m p t) e = absurd (not_under_way m p t e)
          go (ended w) e = refl

      pub walk_is : {w : Walked} → looks goes (suc (3 * n)) (start n) ≡ ended w → walk goes n ≡ w
      walk_is e = walk_many big ∙ ap come_to e

      pub none_to_go_answer : {v : ℕ} {m : List ℕ} {p k : ℕ} → Reached goes n v m p k → NoneToGo goes m
          → walk goes n ≡ ending (kept (survivors m)) (tally (k + occurrences unmarked m) (v + idle_round m p))
      none_to_go_answer {v} {m} {p} {k} r still = walk_many big ∙ answer (looks goes (suc (3 * n)) (start n)) refl (rw (← on) at (after m p (tally k v) still (moment goes n big r).on (suc (3 * n) - v)))
        where
          on : looks goes (suc (3 * n)) (start n) ≡ looks goes (suc (3 * n) - v) (under_way m p (tally k v))
          on = looks_add (suc (3 * n) - v) v (suc (3 * n)) (omega (arith, visits_room goes n big r)) (start n) ∙ ap (looks goes (suc (3 * n) - v)) (reached_is goes n r)

          answer : (w : Stage) → looks goes (suc (3 * n)) (start n) ≡ w → After m p (tally k v) still w
              → come_to w ≡ ending (kept (survivors m)) (tally (k + occurrences unmarked m) (v + idle_round m p))
          answer (under_way l q t) e x = absurd (not_under_way l q t e)
          answer (ended w) e x = x

      pub fallen_after : {v : ℕ} {m : List ℕ} {p k : ℕ} → Reached goes n v m p k → mark_at m p ≡ unmarked → to_go goes m p ≡ true → length (survivors m) ≤ 3
          → (t : ℕ) → v < t → looks goes t (start n) ≡ ended (ending collapsed (tally (suc k) (suc v)))
      unfolding looks look
      fallen_after {v} {m} {p} {k} r e t h i l =
          ended_since (suc v) i l (ended (ending collapsed (tally (suc k) (suc v)))) (ap (look goes) (reached_is goes n r) ∙ look_fall goes m p (tally k v) e t h) refl

      pub kept_after : {v : ℕ} {m : List ℕ} {p k : ℕ} → Reached goes n v m p k → occurrences unmarked m ≡ 0
          → (t : ℕ) → v < t → looks goes t (start n) ≡ ended (ending (kept (survivors m)) (tally k v))
      unfolding looks look
      kept_after {v} {m} {p} {k} r z i l =
          ended_since (suc v) i l (ended (ending (kept (survivors m)) (tally k v))) (ap (look goes) (reached_is goes n r) ∙ look_done goes m p (tally k v) z) refl
