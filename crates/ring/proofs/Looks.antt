-- What a look does at each kind of position.
use Prim.Native.Nat.{ℕ, ◌<◌, ◌≤◌}
use native.Mathlib.Omega.{arith}
use mathlib.Core.Path.{◌≡◌, ◌∙◌}
use mathlib.Core.List.{List}
use mathlib.Core.Bool.{Bool, true, false}
use lib.ListN.{length, set}
use borrow.Author.Tests.{eq-eqb, ne_eqb, le-leb, lt-leb}
use Rattle.ring.specs.Walk.{unmarked, marked, removed, mark_at, survivors, successor, predecessor, occurrences, remove, Tally, counted, stepped_over, ending, to_go, decide, look}
use Rattle.ring.specs.Walk.End.{kept, collapsed}
use Rattle.ring.specs.Walk.Stage.{under_way, ended}
use Rattle.ring.proofs.Marks.{recount}

-- Where a position is unmarked, not all survivors are marked.
pub some_unmarked : (m : List ℕ) (p : ℕ) → mark_at m p ≡ unmarked → occurrences unmarked m ≡ 0 → ⊥
some_unmarked m p e z = omega (arith, recount m p unmarked removed e (omega arith) unmarked)

module _ (goes : ℕ → ℕ → ℕ → Bool) where
  module _ (m : List ℕ) (p : ℕ) (t : Tally) where
    pub look_done : occurrences unmarked m ≡ 0 → look goes (under_way m p t) ≡ ended (ending (kept (survivors m)) t)
    unfolding look
    look_done z = rw (eq-eqb _ _ z, look)

    pub look_over : (occurrences unmarked m ≡ 0 → ⊥) → mark_at m p ≡ marked → look goes (under_way m p t) ≡ under_way m (successor m p) (stepped_over t)
    unfolding look
    look_over n e = rw (ne_eqb _ _ n, eq-eqb _ _ e, look)

    module _ (e : mark_at m p ≡ unmarked) where
      look_decides : look goes (under_way m p t) ≡ decide goes m p t
      unfolding look
      look_decides = let n : mark_at m p ≡ marked → ⊥ = λ z. omega arith in rw (ne_eqb _ _ (some_unmarked m p e), ne_eqb _ _ n, look)

      pub look_stay : to_go goes m p ≡ false → look goes (under_way m p t) ≡ under_way (set m p marked) (successor m p) (counted t)
      unfolding decide
      look_stay g = look_decides ∙ rw (g, decide)

      pub look_go : to_go goes m p ≡ true → 3 < length (survivors m) → look goes (under_way m p t) ≡ under_way (remove m p) (predecessor m p) (counted t)
      unfolding decide
      look_go g h = look_decides ∙ rw (g, lt-leb _ _ h, decide)

      pub look_fall : to_go goes m p ≡ true → length (survivors m) ≤ 3 → look goes (under_way m p t) ≡ ended (ending collapsed (counted t))
      unfolding decide
      look_fall g h = look_decides ∙ rw (g, le-leb _ _ h, decide)
