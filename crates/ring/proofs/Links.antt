-- The rows that link a ring: what they hold at a survivor, and how they are mended when a vertex is removed.
use Prim.Native.Nat.{ℕ, ◌+◌, ◌<◌}
use native.Mathlib.Omega.{arith}
use mathlib.Core.Path.{◌≡◌, refl, sym, ap, ◌∙◌}
use mathlib.Core.Logic.{⊎_elim}
use mathlib.Core.List.{List}
use lib.ListN.{length, get_or, set, length-set}
use lib.Seq.{get_or-set_same, get_or-set_other, set-get_or}
use Rattle.ring.specs.Walk.{unmarked, marked, removed, mark_at, Survivor, successor, predecessor, occurrences, unmark_about, remove}
use Rattle.ring.specs.inside.Rows.{Linked, Removable, Unlinked, Unmarked, UnmarkedAbout, Removed}
use Rattle.ring.proofs.Branches.{same?}
use Rattle.rows.proofs.RowLaws.{any_default}
use Rattle.ring.proofs.Marks.{inside, recount, unmark_yes, unmark_no}
use Rattle.ring.proofs.Survivors.{Same, same_sym, same_survivor}
use Rattle.ring.proofs.Neighbours.{successor_survives, predecessor_survives, not_alone, gap_successor, gap_predecessor, far_successor, far_predecessor, same_successor, same_predecessor}
use Rattle.ring.proofs.Changes.{same_unmark, same_remove, gap_survives}

-- What the rows hold at a survivor.
pub record Here (m next prev : List ℕ) (c : ℕ) : Type 0 where
  pub inside_marks : c < length m
  pub inside_next : c < length next
  pub inside_prev : c < length prev
  pub next_is : get_or next c 0 ≡ successor m c
  pub prev_is : get_or prev c 0 ≡ predecessor m c
  pub successor_inside : successor m c < length m
  pub predecessor_inside : predecessor m c < length m
  pub successor_lives : Survivor m (successor m c)
  pub predecessor_lives : Survivor m (predecessor m c)

pub here : {m next prev : List ℕ} → Linked m next prev → (c : ℕ) → Survivor m c → Here m next prev c
here {m} l c s = record {
  inside_marks = inside m c s;
  inside_next = omega (arith, inside m c s, l.next_long);
  inside_prev = omega (arith, inside m c s, l.prev_long);
  next_is = l.to_successor c s;
  prev_is = l.to_predecessor c s;
  successor_inside = inside m (successor m c) (successor_survives m c s);
  predecessor_inside = inside m (predecessor m c) (predecessor_survives m c s);
  successor_lives = successor_survives m c s;
  predecessor_lives = predecessor_survives m c s;
}

pub linked_same : {m m' next prev : List ℕ} → Same m m' → Linked m next prev → Linked m' next prev
linked_same x l = record {
  next_long = l.next_long ∙ x.long;
  prev_long = l.prev_long ∙ x.long;
  to_successor = λ p s. l.to_successor p (same_survivor (same_sym x) p s) ∙ same_successor x p;
  to_predecessor = λ p s. l.to_predecessor p (same_survivor (same_sym x) p s) ∙ same_predecessor x p;
}

-- Who survives a removal survived before it, and isn't what was removed.
survived : (m : List ℕ) (c q : ℕ) → c < length m → Survivor (set m c removed) q → Survivor m q × (q ≡ c → ⊥)
survived m c q i s =
    let n : q ≡ c → ⊥ = λ e. omega (arith, rw e at s, get_or-set_same m c removed removed i) in
    (rw (get_or-set_other m c q removed removed n) at s, n)

-- Two stores take c out of the rows.
linked_unlinked : {m next prev : List ℕ} {c : ℕ} → Removable m next prev c
    → Linked (set m c removed) (set next (predecessor m c) (successor m c)) (set prev (successor m c) (predecessor m c))
linked_unlinked {m} {next} {prev} {c} x =
    let l = x.linked in
    let s : Survivor m c = omega (arith, x.due) in
    let more = not_alone m c s x.others in
    let h = here l c s in
    record {
      next_long = length-set next _ _ ∙ l.next_long ∙ sym (length-set m c removed);
      prev_long = length-set prev _ _ ∙ l.prev_long ∙ sym (length-set m c removed);
      to_successor = λ q t.
          let o = survived m c q (inside m c s) t in
          ⊎_elim
          (λ (e : q ≡ predecessor m c). rw (e, get_or-set_same next (predecessor m c) (successor m c) 0 (omega (arith, l.next_long))) (sym (gap_successor m c s more)))
          (λ n. get_or-set_other next (predecessor m c) q (successor m c) 0 n ∙ l.to_successor q o.0 ∙ sym (far_successor m c s q o.0 o.1 n))
          (same? q (predecessor m c));
      to_predecessor = λ q t.
          let o = survived m c q (inside m c s) t in
          ⊎_elim
          (λ (e : q ≡ successor m c). rw (e, get_or-set_same prev (successor m c) (predecessor m c) 0 (omega (arith, l.prev_long))) (sym (gap_predecessor m c s more)))
          (λ n. get_or-set_other prev (successor m c) q (predecessor m c) 0 n ∙ l.to_predecessor q o.0 ∙ sym (far_predecessor m c s q o.0 o.1 n))
          (same? q (successor m c));
    }

-- The same, with the places and what is stored there as the code has them.
pub unlinked : {m next prev : List ℕ} {c : ℕ} (i j p : ℕ) → Removable m next prev c → i ≡ get_or prev c 0 → j ≡ get_or next c 0 → p ≡ get_or prev c 0
    → Unlinked m c (set m c removed) (set next i (get_or next c 0)) (set prev j (get_or prev c 0)) p
unlinked {m} {next} {prev} {c} i j p x e f g =
    let h = here x.linked c (omega (arith, x.due)) in
    record { marks = refl; linked = rw (e, f, h.next_is, h.prev_is) (linked_unlinked x); before = g ∙ h.prev_is }

pub unmarked_yes : (m : List ℕ) (p : ℕ) → p < length m → get_or m p 0 ≡ marked → Unmarked m p (set m p unmarked) 1
unmarked_yes m p h e =
    let d : mark_at m p ≡ marked = any_default m p removed 0 h ∙ e in
    record { marks = sym (unmark_yes m p d); fewer = omega (arith, recount m p marked unmarked d (omega arith) marked); small = omega arith }

pub unmarked_no : (m : List ℕ) (p : ℕ) → p < length m → (get_or m p 0 ≡ marked → ⊥) → Unmarked m p m 0
unmarked_no m p h n = record { marks = sym (unmark_no m p (λ e. n (any_default m p 0 removed h ∙ e))); fewer = omega arith; small = omega arith }

-- a survivor's mark is taken off by a 0, whatever it is
pub mark_small : (m : List ℕ) (p : ℕ) → Survivor m p → get_or m p 0 < 2
mark_small m p s = omega (arith, any_default m p 0 removed (inside m p s))

pub unmarked_any : (m : List ℕ) (p : ℕ) → Survivor m p → Unmarked m p (set m p unmarked) (get_or m p 0)
unmarked_any m p s = ⊎_elim
    (λ e. rw e (unmarked_yes m p (inside m p s) e))
    (λ n.
    let e : get_or m p 0 ≡ unmarked = omega (arith, mark_small m p s) in
    let f : set m p unmarked ≡ m = ap (set m p) (sym e) ∙ set-get_or m p 0 in
    rw (f, e) (unmarked_no m p (inside m p s) n))
    (same? (get_or m p 0) marked)

-- and takes no survivor away
pub unmarked_survives : {m a : List ℕ} {p i : ℕ} (q : ℕ) → Unmarked m p a i → Survivor m q → Survivor a q
unmarked_survives {m} {p = p} q x s = rw x.marks (same_survivor (same_unmark m p) q s)

pub unmarked_about : {m a b d : List ℕ} {p q r i j k : ℕ} → Unmarked m p a i → Unmarked a q b j → Unmarked b r d k → q ≡ successor m p → r ≡ predecessor m p
    → UnmarkedAbout m p d (i + j + k)
unfolding unmark_about
unmarked_about x y z e f = record {
  marks = z.marks ∙ rw (y.marks, x.marks, e, f);
  fewer = omega (arith, x.fewer, y.fewer, z.fewer);
  small = omega (arith, x.small, y.small, z.small);
}

-- What is unlinked can be unmarked about, and then is removed.
module _ {m next prev m' next' prev' : List ℕ} {c p : ℕ} (x : Removable m next prev c) (y : Unlinked m c m' next' prev' p) where
  pub unlinked_before : Survivor m' p × Linked m' next' prev'
  unlinked_before =
      let s : Survivor m c = omega (arith, x.due) in
      (rw (y.marks, y.before) (gap_survives m c s (not_alone m c s x.others)), y.linked)

  pub removed_now : {d : List ℕ} {t : ℕ} → UnmarkedAbout m' p d t → Removed m c d next' prev' t
  unfolding remove
  removed_now {d = d} z =
      let e : d ≡ remove m c = z.marks ∙ rw (y.marks, y.before) in
      record {
        marks = e;
        linked = rw e (linked_same (same_remove m c) (rw y.marks at y.linked));
        fewer = omega (arith, z.fewer, ap (occurrences marked) y.marks, recount m c unmarked removed x.due (omega arith) marked);
        small = z.small;
      }
