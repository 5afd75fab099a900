-- Survivors that are counted.
use mathlib.Core.Path.{◌≡◌, refl, ap}
use mathlib.Core.Bool.{Bool, true, false, cond}
use mathlib.Core.List.{List, [], ◌∷◌}
use Prim.Native.Nat.{ℕ, suc, ◌^◌, ◌≤◌, ◌<◌}
use native.Mathlib.Omega.{arith}
use lib.Dec.{ltb}
use lib.ListN.{length}
use Rattle.std.specs.List.{count_by}
use Rattle.std.proofs.lemmas.List.Sums.{sum_by-cons}
use Rattle.ring.specs.Walk.{unmarked, survivors_from, survivors, occurrences}
use borrow.Author.Tests.{ltb-true, ltb-false}
use Rattle.ring.proofs.Survivors.{survivors_yes, survivors_no, survivor_count}
use Rattle.ring.proofs.Listed.{rising_few, survivors_rise}

-- the survivors are as many as the marks below 2
pub survivors-count : (i : ℕ) (mark : List ℕ) → length (survivors_from i mark) ≡ count_by (λ m. ltb m 2) mark
unfolding survivors_from
survivors-count i [] = refl
survivors-count i (m ∷ mark) = go (ltb m 2) refl (survivors-count (suc i) mark)
  where
    go : (b : Bool) → ltb m 2 ≡ b → length (survivors_from (suc i) mark) ≡ count_by (λ m. ltb m 2) mark → length (survivors_from i (m ∷ mark)) ≡ count_by (λ m. ltb m 2) (m ∷ mark)
    go true e r = omega (arith, r, ap length (survivors_yes i m mark (ltb-true m 2 e)), sum_by-cons (λ m. cond (ltb m 2) 1 0) m mark, ap {B = ℕ} (λ (b : Bool). cond b 1 0) e)
    go false e r = omega (arith, r, ap length (survivors_no i m mark (ltb-false m 2 e)), sum_by-cons (λ m. cond (ltb m 2) 1 0) m mark, ap {B = ℕ} (λ (b : Bool). cond b 1 0) e)

-- no more are unmarked than there are
pub few_unmarked : (mark : List ℕ) → length mark ≤ 8192 → occurrences unmarked mark < 2 ^ 16
few_unmarked mark h = omega (arith, survivor_count 0 mark, rising_few 0 (length mark) (survivors mark) (survivors_rise 0 (length mark) mark (omega arith)))
