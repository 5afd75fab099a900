-- How many positions have each mark, and how that changes.
use Prim.Native.Nat.{ℕ, zero, suc, ◌+◌, ◌-◌, ◌<◌, ◌≤◌}
use native.Mathlib.Omega.{arith}
use native.Mathlib.Numerals.{add-one}
use mathlib.Core.Path.{◌≡◌, refl, sym, ap, ◌∙◌}
use mathlib.Core.Logic.{⊎_elim}
use mathlib.Core.List.{List, [], ◌∷◌, ◌++◌, append_assoc}
use mathlib.Core.Bool.{Bool, true, false}
use lib.ListN.{length, set, replicate, length-replicate, get_or-replicate, replicate-append-replicate}
use lib.Seq.{set_at, get_or_at}
use lib.Dec.{eqb}
use Rattle.std.specs.Int.{from_bool as one}
use Rattle.std.specs.List.{sum_by}
use Rattle.std.proofs.lemmas.List.Sums.{sum_by-cons}
use borrow.Author.Tests.{eqb-true, eq-eqb, ne_eqb}
use Rattle.ring.specs.Walk.{unmarked, marked, removed, mark_at, Survivor, occurrences, unmark, fresh}
use Rattle.ring.specs.inside.Rows.{first_marked}
use Rattle.ring.proofs.Branches.{which}

-- What survives lies inside the row.
pub inside : (m : List ℕ) (p : ℕ) → Survivor m p → p < length m
inside [] p h = omega arith
inside (y ∷ m) zero h = omega arith
inside (y ∷ m) (suc p) h = omega (arith, inside m p h)

pub count-cons : (x y : ℕ) (m : List ℕ) → occurrences x (y ∷ m) ≡ one (eqb y x) + occurrences x m
unfolding occurrences
count-cons x y m = go (eqb y x)
  where
    go : (b : Bool) → elim b as (λ _. ℕ) [ true ↦ suc (occurrences x m) | false ↦ occurrences x m ] ≡ one b + occurrences x m
    go true = omega arith
    go false = omega arith

-- the count as a sum of ones
pub count-sum : (x : ℕ) (m : List ℕ) → sum_by (λ y. one (eqb y x)) m ≡ occurrences x m
unfolding occurrences
count-sum x [] = refl
count-sum x (y ∷ m) = sum_by-cons (λ y. one (eqb y x)) y m ∙ ap (λ n. one (eqb y x) + n) (count-sum x m) ∙ sym (count-cons x y m)

count_set : (x : ℕ) (m : List ℕ) (p w : ℕ) → p < length m → occurrences x (set m p w) + one (eqb (mark_at m p) x) ≡ occurrences x m + one (eqb w x)
count_set x [] p w h = omega arith
count_set x (y ∷ m) zero w h = omega (arith, count-cons x y m, count-cons x w m)
count_set x (y ∷ m) (suc p) w h = omega (arith, count-cons x y m, count-cons x y (set m p w), count_set x m p w (omega arith))

-- What a store over the mark v of a survivor does to the number of positions with the mark x.
pub recount : (m : List ℕ) (p v w : ℕ) → mark_at m p ≡ v → v < removed → (x : ℕ) → occurrences x (set m p w) + one (eqb v x) ≡ occurrences x m + one (eqb w x)
recount m p v w e h x = rw e at (count_set x m p w (inside m p (omega arith)))

-- If some position has a mark, one can be named.
pub count_some : (x : ℕ) (m : List ℕ) → (occurrences x m ≡ 0 → ⊥) → (q : ℕ) × (mark_at m q ≡ x)
unfolding occurrences
count_some x [] h = absurd (h refl)
count_some x (y ∷ m) h = ⊎_elim
    (λ e. (0, eqb-true _ _ e))
    (λ e. let i : (q : ℕ) × (mark_at m q ≡ x) = count_some x m (λ z. h (count-cons x y m ∙ rw e (omega arith))) in (suc i.0, i.1))
    (which (eqb y x))

-- What unmarking does at a marked position, and elsewhere.
pub unmark_yes : (m : List ℕ) (p : ℕ) → mark_at m p ≡ marked → unmark m p ≡ set m p unmarked
unfolding unmark
unmark_yes m p e = rw (eq-eqb _ _ e, unmark)

pub unmark_no : (m : List ℕ) (p : ℕ) → (mark_at m p ≡ marked → ⊥) → unmark m p ≡ m
unfolding unmark
unmark_no m p e = rw (ne_eqb _ _ e, unmark)

-- At the start every position survives, unmarked.
pub fresh_survives : (n p : ℕ) → p < n → Survivor (fresh n) p
fresh_survives n p h = rw (get_or-replicate {A = ℕ} n p unmarked removed h) (omega arith)

pub fresh_at : (n p : ℕ) → Survivor (fresh n) p → mark_at (fresh n) p ≡ unmarked
fresh_at n p s = get_or-replicate {A = ℕ} n p unmarked removed (rw length-replicate at (inside (fresh n) p s))

pub fresh_unmarked : (n : ℕ) → occurrences unmarked (fresh n) ≡ n
unfolding occurrences
fresh_unmarked zero = refl
fresh_unmarked (suc n) = ap suc (fresh_unmarked n)

pub fresh_marked : (n : ℕ) → occurrences marked (fresh n) ≡ 0
unfolding occurrences
fresh_marked zero = refl
fresh_marked (suc n) = fresh_marked n

-- Marking from the front, one more position each time.
pub first_none : (n : ℕ) → first_marked n 0 ≡ fresh n
first_none n = let e : n - 0 ≡ n = omega arith in ap fresh e

pub first_more : (n k : ℕ) → k < n → set (first_marked n k) k marked ≡ first_marked n (suc k)
first_more n k h =
    let rest : List ℕ = fresh (n - suc k) in
    let e : n - k ≡ suc (n - suc k) = omega arith in
    ap (λ (w : ℕ). set (replicate k marked ++ fresh w) k marked) e
    ∙ set_at (replicate k marked) unmarked rest marked k (length-replicate k marked)
    ∙ sym (append_assoc (replicate k marked) (marked ∷ []) rest)
    ∙ ap (λ (l : List ℕ). l ++ rest) (replicate-append-replicate k 1 marked ∙ ap (λ (w : ℕ). replicate w marked) (add-one k))

pub first_due : (n k : ℕ) → k < n → mark_at (first_marked n k) k ≡ unmarked
first_due n k h =
    let e : n - k ≡ suc (n - suc k) = omega arith in
    ap (λ (w : ℕ). mark_at (replicate k marked ++ fresh w) k) e
    ∙ get_or_at (replicate k marked) unmarked (fresh (n - suc k)) removed k (length-replicate k marked)

pub first_unmarked : (n k : ℕ) → k ≤ n → k + occurrences unmarked (first_marked n k) ≡ n
first_unmarked n zero h = rw (first_none n) (omega (arith, fresh_unmarked n))
first_unmarked n (suc k) h = rw (← first_more n k (omega arith)) (omega (
  arith,
  recount (first_marked n k) k unmarked marked (first_due n k (omega arith)) (omega arith) unmarked,
  first_unmarked n k (omega arith),
))
