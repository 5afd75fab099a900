-- The list of survivors: how it is cut with its row, who stands in it, how long it is.
use Prim.Native.Nat.{ℕ, zero, suc, ◌+◌, ◌<◌, ◌≤◌}
use native.Mathlib.Omega.{arith}
use mathlib.Core.Path.{◌≡◌, refl, sym, ap, ap₂, ◌∙◌}
use mathlib.Core.Logic.{⊎_elim}
use mathlib.Core.List.{List, [], ◌∷◌, ◌++◌, Memᴰ, head-eq_of_cons-eq, tail-eq_of_cons-eq, nil≢cons}
use mathlib.Core.Bool.{Bool, true, false}
use lib.ListN.{length}
use lib.Dec.{ltb}
use borrow.Author.Tests.{lt-ltb, le-ltb, ltb-true, ne_eqb}
use Rattle.ring.specs.Walk.{unmarked, marked, removed, mark_at, Survivor, survivors_from, survivors, occurrences, fresh}
use Rattle.ring.proofs.Branches.{less?}
use Rattle.ring.proofs.Marks.{count-cons, fresh_unmarked, fresh_marked}

pub survivors_yes : (i x : ℕ) (m : List ℕ) → x < removed → survivors_from i (x ∷ m) ≡ i ∷ survivors_from (suc i) m
unfolding survivors_from
survivors_yes i x m h = rw (lt-ltb _ _ h, survivors_from)

pub survivors_no : (i x : ℕ) (m : List ℕ) → removed ≤ x → survivors_from i (x ∷ m) ≡ survivors_from (suc i) m
unfolding survivors_from
survivors_no i x m h = rw (le-ltb _ _ h, survivors_from)

-- The survivors of a joined row.
survivors-append : (i : ℕ) (a b : List ℕ) (p : ℕ) → i + length a ≡ p → survivors_from i (a ++ b) ≡ survivors_from i a ++ survivors_from p b
unfolding survivors_from
survivors-append i [] b p e = let z : i ≡ p = omega arith in ap (λ w. survivors_from w b) z
survivors-append i (y ∷ a) b p e =
    let r = survivors-append (suc i) a b p (omega arith) in
    ⊎_elim
    (λ l. survivors_yes i y (a ++ b) l ∙ rw (survivors_yes i y a l) (ap (λ t. i ∷ t) r))
    (λ l. survivors_no i y (a ++ b) l ∙ rw (survivors_no i y a l) r)
    (less? y removed)

-- The survivors of a row that is cut at position p, where p survives, and where it is removed.
pub survivors_at : (i : ℕ) (a : List ℕ) (x : ℕ) (b : List ℕ) (p : ℕ) → i + length a ≡ p → x < removed
    → survivors_from i (a ++ x ∷ b) ≡ survivors_from i a ++ p ∷ survivors_from (suc p) b
survivors_at i a x b p e h = survivors-append i a (x ∷ b) p e ∙ ap (λ t. survivors_from i a ++ t) (survivors_yes p x b h)

pub survivors_gap : (i : ℕ) (a b : List ℕ) (p : ℕ) → i + length a ≡ p → survivors_from i (a ++ removed ∷ b) ≡ survivors_from i a ++ survivors_from (suc p) b
survivors_gap i a b p e = survivors-append i a (removed ∷ b) p e ∙ ap (λ t. survivors_from i a ++ t) (survivors_no p removed b (omega arith))

-- Where the list of survivors is cut at q, the row is cut at q.
pub record Parted (i : ℕ) (m x : List ℕ) (q : ℕ) (y : List ℕ) : Type 0 where
  pub low : List ℕ
  pub mark : ℕ
  pub high : List ℕ
  pub is : m ≡ low ++ mark ∷ high
  pub position : i + length low ≡ q
  pub survives : mark < removed
  pub lower : x ≡ survivors_from i low
  pub higher : y ≡ survivors_from (suc q) high

longer : (i z : ℕ) {m x x' : List ℕ} {q : ℕ} {y : List ℕ} (r : Parted (suc i) m x q y) → x' ≡ survivors_from i (z ∷ r.low) → Parted i (z ∷ m) x' q y
longer i z r e = record {
  low = z ∷ r.low;
  mark = r.mark;
  high = r.high;
  is = ap (λ t. z ∷ t) r.is;
  position = omega (arith, r.position);
  survives = r.survives;
  lower = e;
  higher = r.higher;
}

skip : (i z : ℕ) {m x : List ℕ} {q : ℕ} {y : List ℕ} → removed ≤ z → Parted (suc i) m x q y → Parted i (z ∷ m) x q y
skip i z l r = longer i z r (r.lower ∙ sym (survivors_no i z r.low l))

pass : (i z : ℕ) {m x : List ℕ} {q : ℕ} {y : List ℕ} → z < removed → Parted (suc i) m x q y → Parted i (z ∷ m) (i ∷ x) q y
pass i z l r = longer i z r (ap (λ t. i ∷ t) r.lower ∙ sym (survivors_yes i z r.low l))

pub parted : (i : ℕ) (m x : List ℕ) (q : ℕ) (y : List ℕ) → survivors_from i m ≡ x ++ q ∷ y → Parted i m x q y
unfolding survivors_from
parted i [] [] q y e = absurd (nil≢cons e)
parted i [] (z ∷ x) q y e = absurd (nil≢cons e)
parted i (z ∷ m) [] q y e = ⊎_elim
    (λ l.
    let f : i ∷ survivors_from (suc i) m ≡ q ∷ y = sym (survivors_yes i z m l) ∙ e in
    let g : i ≡ q = head-eq_of_cons-eq f in
    record { low = []; mark = z; high = m; is = refl; position = omega arith; survives = l; lower = refl; higher = sym (tail-eq_of_cons-eq f) ∙ rw g })
    (λ l. skip i z l (parted (suc i) m [] q y (sym (survivors_no i z m l) ∙ e)))
    (less? z removed)
parted i (z ∷ m) (w ∷ x) q y e = ⊎_elim
    (λ l.
    let f : i ∷ survivors_from (suc i) m ≡ w ∷ (x ++ q ∷ y) = sym (survivors_yes i z m l) ∙ e in
    rw (← head-eq_of_cons-eq f) (pass i z l (parted (suc i) m x q y (tail-eq_of_cons-eq f))))
    (λ l. skip i z l (parted (suc i) m (w ∷ x) q y (sym (survivors_no i z m l) ∙ e)))
    (less? z removed)

-- Each survivor stands in the list.
pub listed : (i : ℕ) (m : List ℕ) (x p : ℕ) → Survivor m x → i + x ≡ p → Memᴰ p (survivors_from i m)
listed i [] x p h e = absurd (omega arith)
listed i (y ∷ m) zero p h e = rw (survivors_yes i y m h) (let z : p ≡ i = omega arith in Memᴰ.head z)
listed i (y ∷ m) (suc x) p h e =
    let r = listed (suc i) m x p h (omega arith) in
    ⊎_elim
    (λ l. rw (survivors_yes i y m l) (Memᴰ.tail r))
    (λ l. rw (survivors_no i y m l) r)
    (less? y removed)

-- Which positions survive is the same in two rows.
pub record Same (m m' : List ℕ) : Type 0 where
  pub long : length m ≡ length m'
  pub alike : (q : ℕ) → ltb (mark_at m q) removed ≡ ltb (mark_at m' q) removed

pub same_refl : (m : List ℕ) → Same m m
same_refl m = record { long = refl; alike = λ q. refl }

pub same_sym : {m m' : List ℕ} → Same m m' → Same m' m
same_sym x = record { long = sym x.long; alike = λ q. sym (x.alike q) }

pub same_trans : {a b c : List ℕ} → Same a b → Same b c → Same a c
same_trans x y = record { long = x.long ∙ y.long; alike = λ q. x.alike q ∙ y.alike q }

pub same_survivor : {m m' : List ℕ} → Same m m' → (q : ℕ) → Survivor m q → Survivor m' q
same_survivor x q h = ltb-true _ _ (sym (x.alike q) ∙ lt-ltb _ _ h)

pub same_survivors : (i : ℕ) {m m' : List ℕ} → Same m m' → survivors_from i m ≡ survivors_from i m'
unfolding survivors_from
same_survivors i {m} {m'} x = go i m m' x.long x.alike
  where
    go : (i : ℕ) (m m' : List ℕ) → length m ≡ length m' → ((q : ℕ) → ltb (mark_at m q) removed ≡ ltb (mark_at m' q) removed) → survivors_from i m ≡ survivors_from i m'
    go i [] [] l h = refl
    go i [] (y ∷ m') l h = absurd (omega arith)
    go i (x ∷ m) [] l h = absurd (omega arith)
    go i (x ∷ m) (y ∷ m') l h = ap₂ (λ (b : Bool) (t : List ℕ). elim b as (λ _. List ℕ) [ true ↦ i ∷ t | false ↦ t ]) (h 0) (go (suc i) m m' (omega arith) (λ q. h (suc q)))

-- As many survive as are unmarked and marked together.
pub survivor_count : (i : ℕ) (m : List ℕ) → length (survivors_from i m) ≡ occurrences unmarked m + occurrences marked m
unfolding survivors_from occurrences
survivor_count i [] = omega arith
survivor_count i (zero ∷ m) = omega (arith, survivor_count (suc i) m)
survivor_count i (suc zero ∷ m) = omega (arith, survivor_count (suc i) m)
survivor_count i (suc (suc y) ∷ m) = rw (survivors_no i (suc (suc y)) m (omega arith)) (omega (
  arith,
  survivor_count (suc i) m,
  rw (ne_eqb (suc (suc y)) unmarked (λ e. omega arith)) at (count-cons unmarked (suc (suc y)) m),
  rw (ne_eqb (suc (suc y)) marked (λ e. omega arith)) at (count-cons marked (suc (suc y)) m),
))

pub fresh_count : (n : ℕ) → length (survivors (fresh n)) ≡ n
fresh_count n = omega (arith, survivor_count 0 (fresh n), fresh_unmarked n, fresh_marked n)
