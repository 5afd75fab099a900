-- Which contours a cleaner gives back as they are, and how the verdicts tell them.
use mathlib.Core.Path.{◌≡◌, refl, sym, ◌∙◌, ap}
use mathlib.Core.Bool.{Bool, true, not}
use mathlib.Core.Logic.{⊎_elim}
use mathlib.Core.List.{List, [], ◌∷◌}
use Prim.Native.Nat.{ℕ, zero, suc, ◌+◌, ◌*◌, ◌<◌, ◌≤◌}
use native.Mathlib.Omega.{arith}
use lib.Dec.{leb, eqb}
use lib.IntN.{ℤ, pos}
use lib.ListN.{length, get_or, drop, length-replicate, drop_of_length-le}
use lib.Seq.{drop-cons, take-append_seam}
use borrow.Author.Tests.{le-leb, eq-eqb, ne_eqb, not-true}
use Rattle.integers.proofs.Logic.{and_right, or_left, or_right}
use Rattle.grid.specs.declared.Point.{Point}
use Rattle.grid.specs.Points.{origin, points, same}
use Rattle.grid.specs.Corners.{Corner, corner_in, corners, some, aligned_at, reverses_at, distinct_neighbours}
use Rattle.grid.specs.Neighbours.{preceding, following}
use Rattle.grid.specs.Domain.{count, Contour}
use Rattle.rows.specs.Rows.{front}
use Rattle.grid.proofs.RowLaws.{points_count, points-length}
use Rattle.grid.proofs.CornerLaws.{no_corner, corner_none, all_distinct, distinct_before, distinct_after}
use Rattle.ring.specs.declared.Rule.{Rule}
use Rattle.ring.specs.declared.Rule.TheVariants.{Collinear, Spike}
use Rattle.ring.specs.Walk.{survivors_from, survivors, Walked, tally, ending, fresh, walk}
use Rattle.ring.specs.Walk.End.{kept}
use Rattle.ring.specs.Rule.{goes_at, goes_in}
use Rattle.ring.specs.Promises.{Rising}
use Rattle.ring.specs.inside.Rows.{FirstStand, Standing}
use Rattle.ring.proofs.Branches.{which, less?, true_false}
use Rattle.ring.proofs.Marks.{inside}
use Rattle.ring.proofs.Survivors.{fresh_count}
use Rattle.ring.proofs.Listed.{rising_few}
use Rattle.ring.proofs.Theorems.{kept_clean, unchanged_after_n}
use Rattle.clean.specs.Verdicts.{is_simple, spike_free_distinct, no_spikes}
use Rattle.clean.specs.Outcome.{walked, chosen, answer, Lent, lent, Outcome, leaving, swept, outcome_by, outcome}
use Rattle.clean.specs.Promises.{InDomainWithRoom, Stands, Unchanged}
use Rattle.clean.specs.inside.Settling.{Settled as Whole}
use Rattle.clean.proofs.OutcomeLaws.{contour, not_refused, contour_count, outcome_done}
use Rattle.clean.proofs.Picked.{would_go_picked, picked_all, ring_corner}
use Rattle.clean.proofs.Theorems.{kept_in_order}

module _ (goes : Corner → Bool) (row : List ℤ) {n : ℕ} (c : Contour row n) where
  -- the look along the edges says whether none would
  pub front_stands : FirstStand (goes_in goes row) n n → Stands goes (points row)
  front_stands f j h = let l : j < n = omega (arith, points-length c) in sym (ring_corner row c goes j l) ∙ f j l

  pub standing_all : {k : ℕ} → Standing (goes_in goes row) n k → eqb k n ≡ not (some goes (corners (points row)))
  standing_all {k} x = ⊎_elim part whole (less? k n)
    where
      part : k < n → eqb k n ≡ not (some goes (corners (points row)))
      part l = ne_eqb k n (λ e. omega arith) ∙ sym (⊎_elim
          (λ s. ap not s)
          (λ s. true_false (x.next_goes l) (ring_corner row c goes k l ∙ no_corner goes (points row) s k (omega (arith, points-length c))))
          (which (some goes (corners (points row)))))

      whole : n ≤ k → eqb k n ≡ not (some goes (corners (points row)))
      whole l =
          let e : k ≡ n = omega (arith, x.within) in
          eq-eqb k n e ∙ sym (ap not (corner_none goes (points row) (front_stands (rw e at x.stand))))

module _ (goes : Corner → Bool) (row : List ℤ) {n : ℕ} (c : Contour row n) (many : 3 ≤ n) where
  -- where nothing is to go, all is kept, after exactly n decisions in n turns
  front_unchanged : FirstStand (goes_in goes row) n n → walk (goes_in goes row) n ≡ ending (kept (survivors (fresh n))) (tally n n)
  front_unchanged f = unchanged_after_n (goes_in goes row) n many (λ q x. f q (rw length-replicate at (inside (fresh n) q x)))

  pub stands_unchanged : Stands goes (points row) → walk (goes_in goes row) n ≡ ending (kept (survivors (fresh n))) (tally n n)
  stands_unchanged f = front_unchanged (λ j h. ring_corner row c goes j h ∙ f j (omega (arith, points-length c)))

  -- and where all is kept, nothing was to go
  pub unchanged_stands : (walk (goes_in goes row) n).end ≡ kept (survivors (fresh n)) → Stands goes (points row)
  unchanged_stands e j h =
      let l : j < length (survivors (fresh n)) = omega (arith, fresh_count n, points-length c) in
      rw (← picked_all row c) (sym (would_go_picked row goes (survivors (fresh n)) j l) ∙ kept_clean (goes_in goes row) n e j l)

-- the numbers of all positions are the row itself
module _ (row : List ℤ) {n : ℕ} (c : Contour row n) where
  all_numbers : (m k : ℕ) → k + m ≡ n → chosen row (survivors_from k (fresh m)) ≡ drop (2 * k) row
  unfolding chosen survivors_from
  all_numbers zero k e = let l : length row ≤ 2 * k = omega (arith, c.even) in sym (drop_of_length-le row l)
  all_numbers (suc m) k e =
      let two : 2 * suc k ≡ suc (suc (2 * k)) = omega arith in
      let one : 2 * k + 1 ≡ suc (2 * k) = omega arith in
      let x = drop-cons row (2 * k) (pos 0) (omega (arith, c.even)) in
      let y = drop-cons row (suc (2 * k)) (pos 0) (omega (arith, c.even)) in
      rw (one, x, y, ← two) (ap (λ (l : List ℤ). get_or row (2 * k) (pos 0) ∷ get_or row (suc (2 * k)) (pos 0) ∷ l) (all_numbers m (suc k) (omega arith)))

  pub chosen_all : chosen row (survivors (fresh n)) ≡ row
  chosen_all = all_numbers n 0 (omega arith)

-- what a cleaning comes to where no vertex is to go
module _ (rule : Rule) (row out : List ℤ) {n : ℕ} (c : Contour row n) (many : 3 ≤ n) where
  pub settled_untouched : {k : ℕ} → Standing (goes_in (goes_at rule) row) n k → k ≡ n → (exit : List ℤ) → exit ≡ front row out → Whole rule row out (answer 0 n n n) exit
  settled_untouched x all exit e =
      let w : walked rule row ≡ ending (kept (survivors (fresh n))) (tally n n) = ap (walk (goes_in (goes_at rule) row)) (contour_count c) ∙ front_unchanged (goes_at rule) row c many (rw all at x.stand) in
      record { answer = rw (w, fresh_count n); output = rw (w, chosen_all row c) e }

-- as many rising positions as there are places are all of them
rising_all : (m low high : ℕ) (s : List ℕ) → low + m ≡ high → Rising low high s → length s ≡ m → s ≡ survivors_from low (fresh m)
unfolding survivors_from
rising_all zero low high [] g r e = refl
rising_all zero low high (x ∷ s) g r e = absurd (omega arith)
rising_all (suc m) low high [] g r e = absurd (omega arith)
rising_all (suc m) low high (x ∷ s) g r e =
    let f : x ≡ low = omega (arith, r.0, r.1, rising_few (suc x) high s r.2) in
    rw f (ap (λ (l : List ℕ). low ∷ l) (rising_all m (suc low) high s (omega arith) (rw f at r.2) (omega arith)))

-- Any rule, on a contour of three points or more, in the domain, with room; o is whatever the contract allows.
module _ (goes : Corner → Bool) (row : List ℤ) (l : Lent) (o : Outcome) (is : o ≡ outcome_by goes row l) (many : 3 ≤ count row) (fits : InDomainWithRoom row l) where
  -- with nothing to remove the contour comes back unchanged after n
  pub nothing_to_remove : Stands goes (points row) → Unchanged row o
  nothing_to_remove f =
      let e = stands_unchanged goes row (contour fits) many f in
      let d : o ≡ leaving (answer 0 (count row) (count row) (count row)) (swept (count row) (lent l.next l.prev l.mark (front row l.out))) =
      is ∙ outcome_done goes row l (not_refused fits) ∙ rw (e, fresh_count (count row), chosen_all row (contour fits)) in
      record { answer_is = ap (λ (w : Outcome). w.answer) d; points_are = rw (d, ← fits.even_count) (take-append_seam row (drop (length row) l.out)) }

  -- a contour of which all points are kept had nothing to remove
  pub all_kept_stands : o.answer.reply ≡ 0 → o.answer.points ≡ count row → Stands goes (points row)
  all_kept_stands zero-reply all =
      let x = kept_in_order goes row l o is many fits zero-reply in
      let s : x.positions ≡ survivors (fresh (count row)) = rising_all (count row) 0 (count row) x.positions (omega arith) x.rising (sym x.count_is ∙ all) in
      unchanged_stands goes row (contour fits) many (ap (λ (w : Walked). w.end) x.walk_is ∙ ap kept s)

-- the verdicts say which contours stand
module _ (l : List Point) where
  pub simple_stands : is_simple l ≡ true → Stands (goes_at Collinear) l
  unfolding is_simple goes_at
  simple_stands e j h = no_corner aligned_at l (not-true _ (and_right (leb 3 (length l)) (not (some aligned_at (corners l))) e)) j h

  pub stands_simple : 3 ≤ length l → Stands (goes_at Collinear) l → is_simple l ≡ true
  unfolding is_simple goes_at
  stands_simple many f = rw (le-leb 3 (length l) many, corner_none aligned_at l f)

  pub stands_spike_free : 3 ≤ length l → Stands (goes_at Spike) l → (no_spikes l ≡ true) × (distinct_neighbours l ≡ l)
  unfolding no_spikes spike_free_distinct goes_at
  stands_spike_free many f =
      let d = all_distinct l (λ j h. or_left _ _ (f j h)) in
      let b = corner_none reverses_at l (λ j h. or_right (same (get_or l j origin) (following origin l j)) (reverses_at (corner_in l j)) (or_right (same (get_or l j origin) (preceding origin l j)) _ (f j h))) in
      (rw (d, le-leb 3 (length l) many, b), d)

  pub spike_free_stands : no_spikes l ≡ true → distinct_neighbours l ≡ l → Stands (goes_at Spike) l
  unfolding no_spikes spike_free_distinct goes_at
  spike_free_stands e d j h =
      let n : spike_free_distinct l ≡ true = ap spike_free_distinct (sym d) ∙ and_right (leb 3 (length l)) (spike_free_distinct (distinct_neighbours l)) e in
      let b = no_corner reverses_at l (not-true _ (and_right (leb 3 (length l)) (not (some reverses_at (corners l))) n)) j h in
      rw (distinct_before l d j h, distinct_after l d j h, b)

-- A contour of three points or more, in the domain, with room; o is whatever the contract allows.
module _ (row : List ℤ) (l : Lent) (o : Outcome) (many : 3 ≤ count row) (fits : InDomainWithRoom row l) where
  many_points : 3 ≤ length (points row)
  many_points = omega (arith, points_count row)

  -- is_simple holds exactly of the contours that simplified gives back unchanged
  module _ (is : o ≡ outcome Collinear row l) where
    pub simple_is_unchanged : is_simple (points row) ≡ true → Unchanged row o
    simple_is_unchanged e = nothing_to_remove (goes_at Collinear) row l o is many fits (simple_stands (points row) e)

    pub unchanged_is_simple : o.answer.reply ≡ 0 → o.answer.points ≡ count row → is_simple (points row) ≡ true
    unchanged_is_simple z a = stands_simple (points row) many_points (all_kept_stands (goes_at Collinear) row l o is many fits z a)

  -- despiked gives back unchanged exactly the contours without spikes and without equal neighbours
  module _ (is : o ≡ outcome Spike row l) where
    pub spike_free_is_unchanged : no_spikes (points row) ≡ true → distinct_neighbours (points row) ≡ points row → Unchanged row o
    spike_free_is_unchanged e d = nothing_to_remove (goes_at Spike) row l o is many fits (spike_free_stands (points row) e d)

    pub unchanged_is_spike_free : o.answer.reply ≡ 0 → o.answer.points ≡ count row → (no_spikes (points row) ≡ true) × (distinct_neighbours (points row) ≡ points row)
    unchanged_is_spike_free z a = stands_spike_free (points row) many_points (all_kept_stands (goes_at Spike) row l o is many fits z a)
