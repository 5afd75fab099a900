-- A walk sees of its rule only which vertex goes: rules that say the same of the positions of a ring walk it alike.
use Prim.Native.Nat.{ℕ, zero, suc, ◌*◌, ◌<◌, ◌≤◌}
use native.Mathlib.Omega.{arith}
use mathlib.Core.Path.{◌≡◌, refl, sym, ◌∙◌, ap}
use mathlib.Core.Logic.{⊎_elim}
use mathlib.Core.List.{List}
use mathlib.Core.Bool.{Bool, true, false}
use lib.Dec.{eqb}
use lib.ListN.{length}
use Rattle.ring.specs.Walk.{marked, mark_at, Survivor, survivors, all_marked, successor, predecessor, Tally, Stage, stepped_over, ending, start, come_to, to_go, decide, look, looks, walk}
use Rattle.ring.specs.Walk.End.{kept}
use Rattle.ring.specs.Walk.Stage.{under_way, ended}
use Rattle.ring.proofs.Branches.{less?}
use Rattle.ring.proofs.Marks.{inside}
use Rattle.ring.proofs.Neighbours.{successor_survives, predecessor_survives}
use Rattle.ring.proofs.Moments.{History, history, moment}
use Rattle.ring.proofs.Ends.{walk_few, walk_many}

module _ (goes other : ℕ → ℕ → ℕ → Bool) (n : ℕ) (alike : (a c b : ℕ) → a < n → c < n → b < n → goes a c b ≡ other a c b) where
  to_go_alike : (m : List ℕ) (p : ℕ) → length m ≡ n → Survivor m p → to_go goes m p ≡ to_go other m p
  to_go_alike m p e s = alike
      (predecessor m p) p (successor m p)
      (omega (arith, inside m (predecessor m p) (predecessor_survives m p s)))
      (omega (arith, inside m p s))
      (omega (arith, inside m (successor m p) (successor_survives m p s)))

  look_alike : (m : List ℕ) (p : ℕ) (t : Tally) → to_go goes m p ≡ to_go other m p → look goes (under_way m p t) ≡ look other (under_way m p t)
  unfolding look decide
  look_alike m p t e =
      let decided : decide goes m p t ≡ decide other m p t = rw (e, decide) in
      ap
      (λ (w : Stage). elim (all_marked m) [
        | true ↦ ended (ending (kept (survivors m)) t)
        | false ↦ elim (eqb (mark_at m p) marked) [ true ↦ under_way m (successor m p) (stepped_over t) | false ↦ w ]
      ])
      decided

  looks_alike : 3 ≤ n → (v : ℕ) → looks goes v (start n) ≡ looks other v (start n)
  unfolding looks look
  looks_alike big zero = refl
  looks_alike big (suc v) = next (looks goes v (start n)) (history goes n big v) ∙ ap (look other) (looks_alike big v)
    where
      next : (w : Stage) → History goes n big v w → look goes w ≡ look other w
      next (under_way m p t) x = let now = moment goes n big x.1 in look_alike m p t (to_go_alike m p now.long now.on)
      next (ended w) x = refl

  -- the same end, with the same survivors, after the same decisions and turns
  pub equal_rules_walk_alike : walk goes n ≡ walk other n
  equal_rules_walk_alike = ⊎_elim
      (λ few. walk_few goes n few ∙ sym (walk_few other n few))
      (λ big. walk_many goes n big ∙ ap come_to (looks_alike big (suc (3 * n))) ∙ sym (walk_many other n big))
      (less? n 3)
