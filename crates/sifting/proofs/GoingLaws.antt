-- The rows while a pool is cleaned where it lies.
use mathlib.Core.Path.{◌≡◌, refl, sym, ◌∙◌, ap, subst}
use mathlib.Core.Bool.{Bool, true, false}
use mathlib.Core.List.{List, [], ◌∷◌, ◌++◌, append-nil}
use Prim.Native.Nat.{ℕ, zero, suc, ◌+◌, ◌-◌, ◌*◌, ◌≤◌, ◌<◌}
use native.Mathlib.Omega.{arith}
use native.Mathlib.Numerals.{add-one}
use lib.Dec.{eqb}
use lib.ListN.{length, get_or, take, drop, length-append, length-map, length-set}
use lib.Seq.{take-suc, take_all, split_at, drop-append-add, drop-drop, get_or-append-add, get_or-drop, get_or-take, length-take-le}
use lib.IntN.{ℤ}
use Rattle.rows.specs.Rows.{front}
use Rattle.rows.proofs.PlacedLaws.{placed_long}
use Rattle.grid.specs.Domain.{count, Contour}
use Rattle.ring.specs.declared.Rule.{Rule}
use Rattle.buffer.specs.Sets.{joined}
use Rattle.buffer.proofs.ListLaws.{map_at}
use Rattle.pool.specs.Lists.{Entry, entry, capacity, holding, held, if_so, own, Every, Pressed, Even, Fair}
use Rattle.pool.specs.Rows.{Slot, slot, slots, Lent, lent, used, named, numbers, slots_from, slot_at, contents, laid_out}
use Rattle.pool.specs.inside.Records.{total, Lies}
use Rattle.pool.proofs.ListLaws.{every_append, every_split, held-append, total-append, total_held}
use Rattle.pool.proofs.FairLaws.{held_all, held_added}
use Rattle.pool.proofs.LayoutLaws.{lent_is, slots_length, numbers-length, contours_are, records_long, points_long, slot_is, slot_at_is, appended}
use Rattle.sets.specs.Fates.{Fate, fate}
use Rattle.sets.specs.Fates.Fate.{stays, gone}
use Rattle.sets.proofs.FateLaws.{Smaller, fate_smaller}
use Rattle.sifting.specs.Cleaned.{Cleaned, cleaned}
use Rattle.clean.proofs.OutcomeLaws.{contour_count}
use Rattle.sifting.specs.declared.inner.sifting.Kept.{Kept}
use Rattle.sifting.specs.declared.inner.cleaning.Progress.{Progress}
use Rattle.sifting.specs.inside.Sifting.{lying, kept_of}
use Rattle.sifting.specs.inside.Cleaning.{Notable, Going, going, field, contour_at, placing, Next, InDomain, Run}
use Rattle.sifting.proofs.CleanedLaws.{both, cleaned-append, cleaned_one, cleaned_only, Lessened, lessened, cleaned_in_domain, domain_even}

-- what stands behind the front of a row
module _ {A : Type 0} (a row : List A) where
  over : (n : ℕ) → length a ≤ n → drop n (front a row) ≡ drop n row
  over n h =
      let m : length a + (n - length a) ≡ n = omega arith in
      ap (λ (k : ℕ). drop k (front a row)) (sym m) ∙ drop-append-add a (drop (length a) row) (n - length a) ∙ drop-drop (n - length a) (length a) row
      ∙ ap (λ (k : ℕ). drop k row) m

  over_at : (n : ℕ) (d : A) → length a ≤ n → get_or (front a row) n d ≡ get_or row n d
  over_at n d h =
      let m : length a + (n - length a) ≡ n = omega arith in
      ap (λ (k : ℕ). get_or (front a row) k d) (sym m) ∙ get_or-append-add a (drop (length a) row) (n - length a) d ∙ get_or-drop (length a) row (n - length a) d
      ∙ ap (λ (k : ℕ). get_or row k d) m

  front_over : (x : List A) → length a ≤ length x → front x (front a row) ≡ front x row
  front_over x h = ap (λ (l : List A). x ++ l) (over (length x) h)

-- a pool that is laid out over another that is no longer
pub laid_over : (k l : List Entry) (s : Lent) → Every Even k → Every Even l → total k ≤ total l → length k ≤ length l → laid_out l (laid_out k s) ≡ laid_out l s
laid_over k l s e f h n =
    lent_is
    (front_over (numbers k) s.points (numbers l) (omega (arith, numbers-length k e, numbers-length l f)))
    (front_over (slots_from 0 k) s.records (slots_from 0 l) (omega (arith, slots_length 0 k, slots_length 0 l)))
    refl

abbrev nobody : Entry
nobody = entry 0 0 []

-- what a press, 0 or 1, holds of one contour, as the second
second_holds : (p tool : ℕ) (c : List ℤ) → p ≤ 1 → held (if_so (eqb 1 p) (entry p tool c) []) ≡ p * holding (count c)
unfolding held
second_holds zero tool c h = omega arith
second_holds (suc zero) tool c h = omega arith
second_holds (suc (suc p)) tool c h = absurd (omega arith)

-- a press holds no more than all
pub own_held : (l : List Entry) (p : ℕ) → held (own p l) ≤ held l
unfolding held own
own_held [] p = omega arith
own_held (e ∷ l) p = either (eqb p e.press) (own p l) (own_held l p)
  where
    either : (t : Bool) (k : List Entry) → held k ≤ held l → held (if_so t e k) ≤ holding (count e.contour) + held l
    either true k h = omega arith
    either false k h = omega arith

-- a pool of n contours lies in the rows
module _ (rule : Rule) (points₀ : List ℤ) (records₀ : List (List ℕ)) (n : ℕ) where
  abbrev rows₀ : Lent
  rows₀ = lent points₀ records₀ n

  abbrev pool₀ : List Entry
  pool₀ = contents rows₀

  -- so much of it is cleaned, and stands in front of the rows
  pub record Reached (k : Cleaned) (points : List ℤ) (records : List (List ℕ)) (at : Progress) : Type 0 where
    pub rows_are : lent points records at.contours ≡ laid_out k.pool rows₀
    pub points_are : at.points ≡ total k.pool
    pub held_is : at.held ≡ held k.pool
    pub second_is : at.second ≡ held (own 1 k.pool)
    pub decisions_are : at.decisions ≡ k.decisions
    pub same_points : length points ≡ length points₀
    pub same_records : length records ≡ length records₀

  -- the first i contours
  pub record SoFar (points : List ℤ) (records : List (List ℕ)) (i : ℕ) (at : Progress) : Type 0 where
    pub within : i ≤ n
    pub reached : Reached (cleaned rule (take i pool₀)) points records at

  pub so_far_none : SoFar points₀ records₀ 0 (record { contours = 0; points = 0; held = 0; second = 0; decisions = 0 })
  unfolding cleaned joined slots_from held own
  so_far_none = record { within = omega arith; reached = record { rows_are = refl; points_are = refl; held_is = refl; second_is = refl; decisions_are = refl; same_points = refl; same_records = refl } }

  module _ (lies : Lies pool₀ rows₀) (fair : Fair pool₀) (dom : Every InDomain pool₀) where
    n_is : n ≡ length pool₀
    n_is = contours_are pool₀ points₀ records₀ n lies

    all_there : n ≤ length records₀
    all_there = records_long pool₀ points₀ records₀ n lies

    pub all_long : 2 * total pool₀ ≤ length points₀
    all_long = points_long pool₀ points₀ records₀ n lies

    all_few : total pool₀ ≤ capacity
    all_few = omega (arith, total_held pool₀, held_all pool₀ fair)

    -- contour number i
    module _ (i : ℕ) (h : i < n) where
      abbrev this : Entry
      this = get_or pool₀ i nobody

      abbrev first : List Entry
      first = take i pool₀

      apart : pool₀ ≡ first ++ this ∷ drop (suc i) pool₀
      apart = split_at pool₀ i nobody (omega (arith, n_is))

      next_first : take (i + 1) pool₀ ≡ first ++ this ∷ []
      next_first = ap (λ (k : ℕ). take k pool₀) (add-one i) ∙ take-suc pool₀ i nobody (omega (arith, n_is))

      pub domain_parts : Every InDomain first × Every InDomain (this ∷ drop (suc i) pool₀)
      domain_parts = every_split InDomain first (this ∷ drop (suc i) pool₀) (subst (Every InDomain) apart dom)

      press_few : this.press ≤ 1
      press_few = (every_split Pressed first (this ∷ drop (suc i) pool₀) (subst (Every Pressed) apart fair.pressed)).1.0

      pub total_parts : total pool₀ ≡ total first + (count this.contour + total (drop (suc i) pool₀))
      total_parts = ap total apart ∙ total-append first (this ∷ drop (suc i) pool₀)

      held_parts : held first + holding (count this.contour) ≤ capacity
      unfolding held
      held_parts = omega (arith, ap held apart, held-append first (this ∷ drop (suc i) pool₀), held_all pool₀ fair)

      pub this_is : this ≡ named points₀ (slot (get_or records₀ i []))
      this_is =
          let k : i < length records₀ = omega (arith, all_there) in
          let m : i < length (used rows₀) = omega (arith, length-take-le n (slots records₀) (omega (arith, all_there, length-map records₀ slot))) in
          map_at (named points₀) (used rows₀) i nobody (slot []) m
          ∙ ap (named points₀) (get_or-take n (slots records₀) i (slot []) h ∙ map_at slot records₀ i (slot []) [] k)

      pub slot_there : slot (get_or records₀ i []) ≡ slot_at (0 + total first) this
      slot_there = slot_is pool₀ points₀ records₀ n lies i h ∙ slot_at_is 0 pool₀ i (slot []) nobody (omega (arith, n_is))

      less : Lessened rule first
      less = lessened rule first domain_parts.0

      abbrev kept : Cleaned
      kept = cleaned rule first

      kept_even : Every Even kept.pool
      kept_even = domain_even kept.pool (cleaned_in_domain rule first domain_parts.0)

      module _ {points : List ℤ} {records : List (List ℕ)} {at : Progress} (s : Reached kept points records at) where
        contours_few : at.contours ≤ i
        contours_few =
            omega (arith, ap (λ (x : Lent). x.contours) s.rows_are, less.fewer.contours_fewer, length-take-le i pool₀ (omega (arith, n_is)))

        same_slot : slot (get_or records i []) ≡ slot_at (0 + total first) this
        same_slot =
            let k : i < length records = omega (arith, all_there, s.same_records) in
            let m : length (slots_from 0 kept.pool) ≤ i = omega (arith, slots_length 0 kept.pool, less.fewer.contours_fewer, length-take-le i pool₀ (omega (arith, n_is))) in
            sym (map_at slot records i (slot []) [] k)
            ∙ ap (λ (x : Lent). get_or x.records i (slot [])) s.rows_are
            ∙ over_at (slots_from 0 kept.pool) (slots records₀) i (slot []) m
            ∙ map_at slot records₀ i (slot []) [] (omega (arith, all_there))
            ∙ slot_there

        start_is : field records i 0 ≡ total first
        start_is = ap (λ (x : Slot). x.start) same_slot ∙ omega arith

        end_is : field records i 1 ≡ total first + count this.contour
        end_is = ap (λ (x : Slot). x.end) same_slot ∙ omega arith

        contour_is : contour_at points records i ≡ this.contour
        contour_is =
            let m : length (numbers kept.pool) ≤ 2 * field records₀ i 0 =
            omega (arith, numbers-length kept.pool kept_even, less.fewer.points_fewer, ap (λ (x : Slot). x.start) slot_there) in
            ap (λ (x : Slot). lying points x.start x.end) (same_slot ∙ sym slot_there)
            ∙ ap (λ (x : Lent). lying x.points (field records₀ i 0) (field records₀ i 1)) s.rows_are
            ∙ ap (take (2 * field records₀ i 1 - 2 * field records₀ i 0)) (over (numbers kept.pool) points₀ (2 * field records₀ i 0) m)
            ∙ ap (λ (e : Entry). e.contour) (sym this_is)

        -- what cleaning it asks
        pub next_of : (next prev mark : List ℕ) → capacity ≤ length next → capacity ≤ length prev → capacity ≤ length mark → Next points records i at next prev mark
        next_of next prev mark a b c =
            let w = domain_parts.1.0 in
            let f = less.fewer in
            let size : field records i 1 - field records i 0 ≡ count this.contour = omega (arith, start_is, end_is) in
            record {
              there = omega (arith, all_there, s.same_records);
              siftable = record {
                lies = record {
                  forward = omega (arith, start_is, end_is);
                  within = omega (arith, end_is, total_parts, all_long, s.same_points);
                  contour = subst (λ (x : List ℤ). Contour x (field records i 1 - field records i 0)) (sym contour_is) (subst (Contour this.contour) (sym size) w);
                };
                down = omega (arith, s.points_are, start_is, f.points_fewer);
                in_next = omega (arith, size, total_parts, all_few);
                in_prev = omega (arith, size, total_parts, all_few);
                in_mark = omega (arith, size, total_parts, all_few);
              };
              space = omega (arith, contours_few, all_there, s.same_records);
              one_of_two = omega (arith, ap (λ (x : Slot). x.press) same_slot, press_few);
              points_few = omega (arith, size, s.points_are, f.points_fewer, total_parts, all_few);
              held_few = omega (arith, size, s.held_is, f.held_fewer, held_parts);
              second_few = omega (arith, s.held_is, s.second_is, own_held kept.pool 1);
              decisions_few = omega (arith, size, s.decisions_are, less.decisions_few, total_parts, all_few);
            }

        kept_lies : Lies kept.pool (lent points records at.contours)
        kept_lies = record {
          even = kept_even;
          is = s.rows_are ∙ sym (laid_over kept.pool kept.pool rows₀ kept_even kept_even (omega arith) (omega arith)) ∙ ap (laid_out kept.pool) (sym s.rows_are);
        }

        -- with one more
        one_more : (f : Fate) → Smaller this.contour f →
            let g = placing f this.tool this.press (going at points records) in
            Reached (both kept (cleaned_one this f)) g.points g.records g.progress
        unfolding held
        one_more (stays d t) z =
            let e = entry this.press this.tool d in
            let w = domain_parts.1.0 in
            let p = s.points_are in
            let room : 2 * at.points + length d ≤ length points = omega (arith, less.fewer.points_fewer, total_parts, all_long, s.same_points, z.0, w.even) in
            let space : at.contours < length records = omega (arith, contours_few, all_there, s.same_records) in
            let more : total kept.pool ≤ total (kept.pool ++ e ∷ []) = omega (arith, total-append kept.pool (e ∷ [])) in
            let longer : length kept.pool ≤ length (kept.pool ++ e ∷ []) = omega (arith, length-append kept.pool (e ∷ [])) in
            record {
              rows_are =
                  appended kept.pool points records at.contours kept_lies e at.points _ _ p space refl refl
                  ∙ ap (laid_out (kept.pool ++ e ∷ [])) s.rows_are
                  ∙ laid_over kept.pool (kept.pool ++ e ∷ []) rows₀ kept_even (every_append Even kept.pool (e ∷ []) kept_even (z.1, tt)) more longer;
              points_are = omega (arith, p, total-append kept.pool (e ∷ []));
              held_is = omega (arith, s.held_is, held-append kept.pool (e ∷ []));
              second_is = omega (arith, s.second_is, held_added this.press 1 this.tool d kept.pool, second_holds this.press this.tool d press_few);
              decisions_are = omega (arith, s.decisions_are);
              same_points = placed_long points (2 * at.points) d room ∙ s.same_points;
              same_records = length-set records at.contours _ ∙ s.same_records;
            }
        one_more (gone t) z = record {
          rows_are = s.rows_are ∙ ap (λ (l : List Entry). laid_out l rows₀) (sym (append-nil kept.pool));
          points_are = s.points_are ∙ ap total (sym (append-nil kept.pool));
          held_is = s.held_is ∙ ap held (sym (append-nil kept.pool));
          second_is = s.second_is ∙ ap (λ (l : List Entry). held (own 1 l)) (sym (append-nil kept.pool));
          decisions_are = omega (arith, s.decisions_are);
          same_points = s.same_points;
          same_records = s.same_records;
        }

        pub so_far_more : (r : Progress) (p : List ℤ) (q : List (List ℕ))
            → going r p q ≡ placing (fate rule (contour_at points records i)) (field records i 2) (field records i 3) (going at points records)
            → SoFar p q (i + 1) r
        so_far_more r p q g =
            let f = fate rule this.contour in
            let at-this : going r p q ≡ placing f this.tool this.press (going at points records) =
            g ∙ ap (λ (c : List ℤ). placing (fate rule c) (field records i 2) (field records i 3) (going at points records)) contour_is
            ∙ ap (λ (x : Slot). placing f x.tool x.press (going at points records)) same_slot in
            let cleaned-is : both kept (cleaned_one this f) ≡ cleaned rule (take (i + 1) pool₀) =
            ap (both kept) (sym (cleaned_only rule this)) ∙ sym (cleaned-append rule first (this ∷ [])) ∙ ap (cleaned rule) (sym next_first) in
            record {
              within = omega arith;
              reached = subst (λ (k : Cleaned). Reached k p q r) cleaned-is
                  (subst (λ (x : Going). Reached (both kept (cleaned_one this f)) x.points x.records x.progress) (sym at-this)
                  (one_more f (fate_smaller rule this.contour domain_parts.1.0)));
            }

    -- all of it
    pub so_far_all : (points : List ℤ) (records : List (List ℕ)) (i : ℕ) (at : Progress) → SoFar points records i at → n ≤ i → Run rule points₀ records₀ n at points records
    so_far_all points records i at s h =
        let r : Reached (cleaned rule pool₀) points records at =
        subst (λ (l : List Entry). Reached (cleaned rule l) points records at) (take_all i pool₀ (omega (arith, n_is))) s.reached in
        record {
          rows_are = r.rows_are;
          points_are = r.points_are;
          held_is = r.held_is;
          second_is = r.second_is;
          decisions_are = r.decisions_are;
          few = omega (arith, r.decisions_are, (lessened rule pool₀ dom).decisions_few, all_few);
        }

-- a press, 0 or 1, times a number
pub times_few : (p x : ℕ) → p ≤ 1 → p * x ≤ x
times_few zero x h = omega arith
times_few (suc zero) x h = omega arith
times_few (suc (suc p)) x h = absurd (omega arith)

-- what noting asks of a contour that was cleaned
pub notable : (rule : Rule) (points : List ℤ) (records : List (List ℕ)) (i : ℕ) (at : Progress) (next prev mark : List ℕ) → Next points records i at next prev mark
    → (k : Kept) → k ≡ kept_of (fate rule (contour_at points records i)) → Notable k at (field records i 3) records
notable rule points records i at next prev mark w k e =
    let c = contour_at points records i in
    let x = w.siftable.lies.contour in
    subst (λ (y : Kept). Notable y at (field records i 3) records) (sym e)
    (go (fate rule c) (fate_smaller rule c (subst (Contour c) (sym (contour_count x)) x)))
  where
    even : length (contour_at points records i) ≡ 2 * (field records i 1 - field records i 0)
    even = w.siftable.lies.contour.even

    go : (f : Fate) → Smaller (contour_at points records i) f → Notable (kept_of f) at (field records i 3) records
    go (stays d t) s = record {
      space = w.space;
      one_of_two = w.one_of_two;
      points_few = omega (arith, even, s.0, s.1, w.points_few);
      held_few = omega (arith, even, s.0, s.1, w.held_few);
      second_few = w.second_few;
      decisions_few = omega (arith, even, s.2, w.decisions_few);
    }
    go (gone t) s = record {
      space = w.space;
      one_of_two = w.one_of_two;
      points_few = omega (arith, w.points_few);
      held_few = omega (arith, w.held_few);
      second_few = w.second_few;
      decisions_few = omega (arith, even, s.0, w.decisions_few);
    }
