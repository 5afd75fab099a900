-- How the rows of a new ring are filled.
use Prim.Native.Nat.{ℕ, zero, suc, ◌+◌, ◌-◌, ◌<◌, ◌≤◌}
use native.Mathlib.Omega.{arith}
use native.Mathlib.Numerals.{add-one}
use mathlib.Core.Path.{◌≡◌, sym, ◌∙◌}
use mathlib.Core.Logic.{⊎_elim}
use mathlib.Core.List.{List}
use lib.ListN.{length, get_or, set, length-set, length-replicate, get_or-eq_default}
use lib.Seq.{get_or-set_same, get_or-set_other}
use Rattle.ring.specs.Walk.{unmarked, survivors_from, survivors, successor, predecessor, fresh}
use Rattle.ring.specs.inside.Rows.{AllLinked}
use Rattle.ring.proofs.Branches.{less?}
use Rattle.rows.proofs.RowLaws.{any_default}
use Rattle.ring.proofs.Marks.{inside}
use Rattle.ring.proofs.Survivors.{fresh_count}
use Rattle.ring.proofs.Listed.{At, at}

-- In a new ring each position stands at its own number.
fresh_listed : (i n k : ℕ) → k < n → get_or (survivors_from i (fresh n)) k 0 ≡ i + k
unfolding survivors_from
fresh_listed i zero k h = absurd (omega arith)
fresh_listed i (suc n) zero h = omega arith
fresh_listed i (suc n) (suc k) h = fresh_listed (suc i) n k (omega arith) ∙ omega arith

pub fresh_stands : (n k : ℕ) → k < n → At (fresh n) k k
fresh_stands n k h = let e : get_or (survivors (fresh n)) k 0 ≡ k = fresh_listed 0 n k h ∙ omega arith in rw e at (at (fresh n) k (omega (arith, fresh_count n)))

-- Its neighbours are the numbers beside it; the first follows the last.
pub fresh_next : (n k : ℕ) → suc k < n → successor (fresh n) k ≡ suc k
fresh_next n k h =
    let l : List ℕ = survivors (fresh n) in
    (fresh_stands n k (omega arith)).after ∙ any_default l (suc k) (get_or l 0 0) 0 (omega (arith, fresh_count n)) ∙ fresh_listed 0 n (suc k) h ∙ omega arith

pub fresh_round : (n k : ℕ) → suc k ≡ n → successor (fresh n) k ≡ 0
fresh_round n k e =
    let l : List ℕ = survivors (fresh n) in
    (fresh_stands n k (omega arith)).after ∙ get_or-eq_default l (get_or l 0 0) (omega (arith, fresh_count n)) ∙ fresh_listed 0 n 0 (omega arith) ∙ omega arith

pub fresh_before : (n k : ℕ) → suc k < n → predecessor (fresh n) (suc k) ≡ k
fresh_before n k h = (fresh_stands n (suc k) h).before ∙ fresh_listed 0 n k (omega arith) ∙ omega arith

pub fresh_last : (n : ℕ) → 0 < n → predecessor (fresh n) 0 ≡ n - 1
fresh_last n h = (fresh_stands n 0 h).before ∙ fresh_listed 0 n _ (omega (arith, fresh_count n)) ∙ omega (arith, fresh_count n)

-- Each position is linked to the one behind it, and the last to the first.
pub linked_fresh : {n v : ℕ} (next prev : List ℕ) {mark : List ℕ} → length next ≡ n → length prev ≡ n → 1 ≤ n → mark ≡ fresh n → v ≡ n - 1
    → ((k : ℕ) → k + 1 < n → (get_or next k 0 ≡ k + 1) × (get_or prev (k + 1) 0 ≡ k)) → AllLinked n mark (set next (n - 1) 0) (set prev 0 v)
linked_fresh {n} {v} next prev {mark} ln lp some marks e links = record {
  marks = marks;
  linked = rw marks (record {
    next_long = length-set next (n - 1) 0 ∙ ln ∙ sym (length-replicate n unmarked);
    prev_long = length-set prev 0 v ∙ lp ∙ sym (length-replicate n unmarked);
    to_successor = λ p s. ahead p (rw length-replicate at (inside (fresh n) p s));
    to_predecessor = λ p s. back p (rw length-replicate at (inside (fresh n) p s));
  });
}
  where
    ahead : (p : ℕ) → p < n → get_or (set next (n - 1) 0) p 0 ≡ successor (fresh n) p
    ahead p h = ⊎_elim
        (λ i. get_or-set_other next (n - 1) p 0 0 (λ z. omega arith) ∙ (links p (omega arith)).0 ∙ add-one p ∙ sym (fresh_next n p i))
        (λ i. let z : p ≡ n - 1 = omega arith in rw z (get_or-set_same next (n - 1) 0 0 (omega arith) ∙ sym (fresh_round n (n - 1) (omega arith))))
        (less? (suc p) n)

    back : (p : ℕ) → p < n → get_or (set prev 0 v) p 0 ≡ predecessor (fresh n) p
    back zero h = get_or-set_same prev 0 v 0 (omega arith) ∙ e ∙ sym (fresh_last n h)
    back (suc k) h = get_or-set_other prev 0 (suc k) v 0 (λ z. omega arith) ∙ (rw (add-one k) at (links k (omega arith)).1) ∙ sym (fresh_before n k h)
