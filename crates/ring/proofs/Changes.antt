-- What a row is after a survivor is marked, unmarked or removed: who survives, what is marked, and how many.
use Prim.Native.Nat.{ℕ, zero, suc, ◌+◌, ◌<◌, ◌≤◌}
use native.Mathlib.Omega.{arith}
use mathlib.Core.Path.{◌≡◌, sym, ap, ◌∙◌}
use mathlib.Core.Logic.{⊎_elim}
use mathlib.Core.List.{List}
use lib.ListN.{length, set, length-set}
use lib.Seq.{get_or-set_same, get_or-set_other}
use borrow.Author.Tests.{lt-ltb}
use Rattle.ring.specs.Walk.{unmarked, marked, removed, mark_at, Survivor, survivors, successor, predecessor, occurrences, unmark, unmark_about, remove, fresh}
use Rattle.ring.specs.inside.Rows.{first_marked}
use Rattle.ring.proofs.Branches.{same?}
use Rattle.ring.proofs.Marks.{inside, recount, unmark_yes, unmark_no, first_none, first_more, first_due}
use Rattle.ring.proofs.Survivors.{Same, same_refl, same_trans, same_survivor, same_survivors, survivor_count}
use Rattle.ring.proofs.Neighbours.{Alone, successor_survives, predecessor_survives, predecessor_other, gap_successor}

-- A survivor's mark can change, and it still survives.
pub same_set : (m : List ℕ) (c v : ℕ) → Survivor m c → v < removed → Same m (set m c v)
same_set m c v s h = record {
  long = sym (length-set m c v);
  alike = λ q. ⊎_elim
      (λ (e : q ≡ c). rw (e, get_or-set_same m c v removed (inside m c s), lt-ltb v removed h, lt-ltb (mark_at m c) removed s))
      (λ n. rw (get_or-set_other m c q v removed n))
      (same? q c);
}

-- Marking from the front takes none out of the ring.
pub first_same : (n k : ℕ) → k ≤ n → Same (fresh n) (first_marked n k)
first_same n zero h = rw (first_none n) (same_refl (fresh n))
first_same n (suc k) h =
    let d = first_due n k (omega arith) in
    same_trans (first_same n k (omega arith)) (rw (← first_more n k (omega arith)) (same_set (first_marked n k) k marked (omega arith) (omega arith)))

pub same_unmark : (m : List ℕ) (p : ℕ) → Same m (unmark m p)
same_unmark m p = ⊎_elim
    (λ e. rw (unmark_yes m p e) (same_set m p unmarked (omega arith) (omega arith)))
    (λ n. rw (unmark_no m p n) (same_refl m))
    (same? (mark_at m p) marked)

pub same_remove : (m : List ℕ) (c : ℕ) → Same (set m c removed) (remove m c)
unfolding remove unmark_about
same_remove m c = same_trans (same_unmark _ _) (same_trans (same_unmark _ _) (same_unmark _ _))

pub length_remove : (m : List ℕ) (c : ℕ) → length (remove m c) ≡ length m
length_remove m c = sym (same_remove m c).long ∙ length-set m c removed

-- Who survives beside a removed position.
survives_gap : (m : List ℕ) (c q : ℕ) → Survivor m q → (q ≡ c → ⊥) → Survivor (set m c removed) q
survives_gap m c q s n = rw (get_or-set_other m c q removed removed n) s

-- What is unmarked stays so, and what is unmarked by name becomes so.
unmark_keeps : (m : List ℕ) (p q : ℕ) → mark_at m q ≡ unmarked → mark_at (unmark m p) q ≡ unmarked
unmark_keeps m p q e = ⊎_elim
    (λ y. rw (unmark_yes m p y) (get_or-set_other m p q unmarked removed (λ z. omega (arith, rw z at e)) ∙ e))
    (λ n. rw (unmark_no m p n) e)
    (same? (mark_at m p) marked)

unmark_at : (m : List ℕ) (p : ℕ) → Survivor m p → mark_at (unmark m p) p ≡ unmarked
unmark_at m p s = ⊎_elim
    (λ y. rw (unmark_yes m p y) (get_or-set_same m p unmarked removed (inside m p s)))
    (λ n. rw (unmark_no m p n) (omega arith))
    (same? (mark_at m p) marked)

-- After a removal: what was unmarked is so still, and the predecessor and the successor are.
pub remove_keeps : (m : List ℕ) (c q : ℕ) → mark_at m q ≡ unmarked → (q ≡ c → ⊥) → mark_at (remove m c) q ≡ unmarked
unfolding remove unmark_about
remove_keeps m c q e n = unmark_keeps _ _ q (unmark_keeps _ _ q (unmark_keeps _ _ q (get_or-set_other m c q removed removed n ∙ e)))

module _ (m : List ℕ) (c : ℕ) (s : Survivor m c) (more : Alone m c → ⊥) where
  pub gap_survives : Survivor (set m c removed) (predecessor m c)
  gap_survives = survives_gap m c (predecessor m c) (predecessor_survives m c s) (predecessor_other m c s more)

  pub remove_predecessor : mark_at (remove m c) (predecessor m c) ≡ unmarked
  unfolding remove unmark_about
  remove_predecessor = unmark_keeps _ _ _ (unmark_keeps _ _ _ (unmark_at (set m c removed) (predecessor m c) gap_survives))

  pub remove_successor : mark_at (remove m c) (successor m c) ≡ unmarked
  unfolding remove unmark_about
  remove_successor =
      let r : List ℕ = set m c removed in
      let p : ℕ = predecessor m c in
      let t : Survivor (unmark r p) (successor r p) = same_survivor (same_unmark r p) (successor r p) (successor_survives r p gap_survives) in
      rw (← gap_successor m c s more) (unmark_keeps _ _ (successor r p) (unmark_at (unmark r p) (successor r p) t))

-- How many survive, and how many are unmarked and marked, after a mark and after a removal.
pub mark_counts : (m : List ℕ) (c : ℕ) → mark_at m c ≡ unmarked
    → (length (survivors (set m c marked)) ≡ length (survivors m)) × (occurrences unmarked (set m c marked) + 1 ≡ occurrences unmarked m) × (occurrences marked (set m c marked) ≡ occurrences marked m + 1)
mark_counts m c e = (
  ap length (sym (same_survivors 0 (same_set m c marked (omega arith) (omega arith)))),
  omega (arith, recount m c unmarked marked e (omega arith) unmarked),
  omega (arith, recount m c unmarked marked e (omega arith) marked),
)

unmark_counts : (m : List ℕ) (p : ℕ)
    → (occurrences unmarked (unmark m p) + occurrences marked (unmark m p) ≡ occurrences unmarked m + occurrences marked m) × (occurrences unmarked (unmark m p) ≤ occurrences unmarked m + 1)
unmark_counts m p = ⊎_elim
    (λ e. rw (unmark_yes m p e) (omega (arith, recount m p marked unmarked e (omega arith) unmarked, recount m p marked unmarked e (omega arith) marked)))
    (λ n. rw (unmark_no m p n) (omega arith))
    (same? (mark_at m p) marked)

pub remove_counts : (m : List ℕ) (c : ℕ) → mark_at m c ≡ unmarked
    → (length (survivors (remove m c)) + 1 ≡ length (survivors m)) × (occurrences unmarked (remove m c) ≤ occurrences unmarked m + 2)
unfolding remove unmark_about
remove_counts m c e =
    let r : List ℕ = set m c removed in
    let p : ℕ = predecessor m c in
    let u = unmark_counts r p in
    let v = unmark_counts (unmark r p) (successor r p) in
    let w = unmark_counts (unmark (unmark r p) (successor r p)) (predecessor r p) in
    omega (arith, recount m c unmarked removed e (omega arith) unmarked, recount m c unmarked removed e (omega arith) marked, survivor_count 0 m, survivor_count 0 (remove m c))
