-- Records that are read one after the other.
use mathlib.Core.Path.{◌≡◌, refl, sym, ◌∙◌, ap, subst}
use mathlib.Core.Bool.{Bool, true, false, cond, ◌&&◌, and_assoc, and-false}
use mathlib.Core.List.{List, [], ◌∷◌}
use Prim.Native.Nat.{ℕ, zero, suc, ◌+◌, ◌-◌, ◌*◌, ◌≤◌, ◌<◌}
use native.Mathlib.Omega.{arith}
use native.Mathlib.Numerals.{add-one}
use Rattle.std.specs.Prelude.{count_by}
use Rattle.std.proofs.lemmas.Bool.Decides.{nat_tests}
use Rattle.std.proofs.lemmas.List.Recursion.{is_count_by}
use lib.Dec.{leb, eqb}
use lib.ListN.{length, get_or, take, drop, drop_of_length-le, length-map}
use lib.Seq.{drop-cons, length-take-le, get_or-take}
use borrow.Author.Tests.{eqb-true, leb-true, le-leb, eq-eqb, ne_eqb}
use Rattle.integers.proofs.Logic.{and_left, and_right}
use Rattle.buffer.specs.Spans as Spans
use Rattle.std.proofs.lemmas.List.{get_or-map}
use Rattle.pool.specs.Lists.{holding, if_so}
use Rattle.pool.specs.Rows.{Slot, slot, slots, span_of, follows, chained, if_mine, held_by}
use Rattle.pool.specs.Outcome.{own_slots}
use Rattle.pool.specs.inside.Records.{end_of, press_at, Found}

-- what is left of the first n records from i on
module _ (records : List (List ℕ)) (n i : ℕ) (fit : n ≤ length records) where
  taken : length (take n (slots records)) ≡ n
  taken = length-take-le n (slots records) (omega (arith, length-map records slot))

  here : i < n → drop i (take n (slots records)) ≡ slot (get_or records i []) ∷ drop (i + 1) (take n (slots records))
  here h =
      let k : i < length (take n (slots records)) = omega (arith, taken) in
      drop-cons (take n (slots records)) i (slot []) k
      ∙ rw (add-one i, get_or-take n (slots records) i (slot []) h, get_or-map slot records i [] (slot []) (omega arith))

  nothing : n ≤ i → drop i (take n (slots records)) ≡ []
  nothing h = let k : length (take n (slots records)) ≤ i = omega (arith, taken) in drop_of_length-le (take n (slots records)) k

  -- the rest of a press's records, if the next is its own, or not, or none is left
  module _ (press : ℕ) where
    pub own_mine : i < n → press_at records i ≡ press → own_slots press (drop i (take n (slots records))) ≡ slot (get_or records i []) ∷ own_slots press (drop (i + 1) (take n (slots records)))
    unfolding own_slots
    own_mine h e = rw (here h, eq-eqb press (press_at records i) (sym e))

    pub own_others : i < n → (press_at records i ≡ press → ⊥) → own_slots press (drop i (take n (slots records))) ≡ own_slots press (drop (i + 1) (take n (slots records)))
    unfolding own_slots
    own_others h f = rw (here h, ne_eqb press (press_at records i) (λ e. f (sym e)))

    pub own_done : n ≤ i → own_slots press (drop i (take n (slots records))) ≡ []
    unfolding own_slots
    own_done e = rw (nothing e)

-- the search for number k of a press: it is number rest of those from i on
pub record Seeking (records : List (List ℕ)) (n press k i rest : ℕ) : Type 0 where
  pub within : i ≤ n
  pub counts : length (own_slots press (take n (slots records))) + rest ≡ length (own_slots press (drop i (take n (slots records)))) + k
  pub is : get_or (own_slots press (take n (slots records))) k (slot []) ≡ get_or (own_slots press (drop i (take n (slots records)))) rest (slot [])

pub seeking_all : (records : List (List ℕ)) (n press k : ℕ) → Seeking records n press k 0 k
seeking_all records n press k = record { within = omega arith; counts = refl; is = refl }

module _ {records : List (List ℕ)} {n press k i rest : ℕ} (fit : n ≤ length records) (s : Seeking records n press k i rest) where
  abbrev later : List Slot
  later = own_slots press (drop (i + 1) (take n (slots records)))

  pub seeking_here : i < n → press_at records i ≡ press → rest ≡ 0 → Found press k n records i
  seeking_here h e z =
      let o = own_mine records n i fit press h e in
      record {
        within = h;
        there = omega (arith, s.counts, ap length o);
        is = sym (s.is ∙ ap (λ (l : List Slot). get_or l rest (slot [])) o ∙ ap (λ (j : ℕ). get_or (slot (get_or records i []) ∷ later) j (slot [])) z);
      }

  pub seeking_past : i < n → press_at records i ≡ press → (rest ≡ 0 → ⊥) → Seeking records n press k (i + 1) (rest - 1)
  seeking_past h e z =
      let o = own_mine records n i fit press h e in
      let d : rest ≡ suc (rest - 1) = omega arith in
      record {
        within = omega arith;
        counts = omega (arith, s.counts, ap length o);
        is = s.is ∙ ap (λ (l : List Slot). get_or l rest (slot [])) o ∙ ap (λ (j : ℕ). get_or (slot (get_or records i []) ∷ later) j (slot [])) d;
      }

  pub seeking_other : i < n → (press_at records i ≡ press → ⊥) → Seeking records n press k (i + 1) rest
  seeking_other h f =
      let o = own_others records n i fit press h f in
      record { within = omega arith; counts = s.counts ∙ ap (λ (l : List Slot). length l + k) o; is = s.is ∙ ap (λ (l : List Slot). get_or l rest (slot [])) o }

  pub seeking_none : n ≤ i → length (own_slots press (take n (slots records))) ≤ k
  seeking_none h = omega (arith, s.counts, ap length (own_done records n i fit press h))

eqb-comm : (m n : ℕ) → eqb m n ≡ eqb n m
eqb-comm m n = grind (arith, nat_tests)

-- a press's records, counted in the row
counted_first : (t : Bool) (s : Slot) (l : List Slot) → length (if_so t s l) ≡ cond t (1 + length l) (length l)
counted_first true s l = omega arith
counted_first false s l = refl

pub own_counted : (press : ℕ) (records : List (List ℕ)) → length (own_slots press (slots records)) ≡ count_by (λ r. eqb (get_or r 3 0) press) records
unfolding own_slots
own_counted press =
    is_count_by (λ l. length (own_slots press (slots l))) (λ r. eqb (get_or r 3 0) press) refl
    (λ r l. rw (eqb-comm (get_or r 3 0) press) (counted_first (eqb press (get_or r 3 0)) (slot r) (own_slots press (slots l))))

-- what the first of sound records says
pub record Next (places p : ℕ) (s : Slot) (l : List Slot) : Type 0 where
  pub starts : p ≡ s.start
  pub forward : s.start ≤ s.end
  pub tool : s.tool ≤ 255
  pub press : s.press ≤ 1
  pub rest : chained places s.end l ≡ true

pub next : (places p : ℕ) (s : Slot) (l : List Slot) → chained places p (s ∷ l) ≡ true → Next places p s l
unfolding chained
next places p s l e =
    let a = and_left (follows p s) _ e in
    let f = and_left (Spans.follows p (span_of s)) _ a in
    let t = and_right (Spans.follows p (span_of s)) _ a in
    record {
      starts = eqb-true _ _ (and_left (eqb p s.start) _ f);
      forward = leb-true _ _ (and_right (eqb p s.start) _ f);
      tool = leb-true _ _ (and_left (leb s.tool 255) _ t);
      press = leb-true _ _ (and_right (leb s.tool 255) _ t);
      rest = and_right (follows p s) _ e;
    }

ends_within : (places p : ℕ) → chained places p [] ≡ true → p ≤ places
unfolding chained
ends_within places p e = leb-true p places e

pub rises : (places p : ℕ) (l : List Slot) → chained places p l ≡ true → p ≤ places
rises places p [] e = ends_within places p e
rises places p (s ∷ l) e = let j = next places p s l e in omega (arith, j.starts, j.forward, rises places s.end l j.rest)

-- a record that follows and ends within the places, and what is chained behind it
first_chained : (places p : ℕ) (s : Slot) (l : List Slot) → chained places p (s ∷ l) ≡ ((follows p s && leb s.end places) && chained places s.end l)
unfolding chained
first_chained places p s l = ap (λ (t : Bool). follows p s && t) (go (chained places s.end l) refl) ∙ sym (and_assoc (follows p s) _ _)
  where
    go : (t : Bool) → chained places s.end l ≡ t → chained places s.end l ≡ (leb s.end places && chained places s.end l)
    go true e = rw (le-leb s.end places (rises places s.end l e))
    go false e = rw e (sym (and-false (leb s.end places)))

-- a number that counts for either press, and for the second by its number
either_mine : (press k : ℕ) → press ≤ 1 → if_mine (eqb 0 press) k + if_mine (eqb 1 press) k ≡ k
either_mine zero k h = omega arith
either_mine (suc zero) k h = omega arith
either_mine (suc (suc press)) k h = absurd (omega arith)

second_mine : (press k : ℕ) → press ≤ 1 → press * k ≡ if_mine (eqb 1 press) k
second_mine zero k h = omega arith
second_mine (suc zero) k h = omega arith
second_mine (suc (suc press)) k h = absurd (omega arith)

-- a survey of the first n records that has come to record i and to point `at`: with what is left from there on it is the whole
pub record Surveying (records : List (List ℕ)) (n places at all second i : ℕ) : Type 0 where
  pub within : i ≤ n
  pub ends : at ≤ places
  pub small : all ≤ at + i
  pub part : second ≤ all
  pub chain : chained places 0 (take n (slots records)) ≡ chained places at (drop i (take n (slots records)))
  pub end : end_of 0 (take n (slots records)) ≡ end_of at (drop i (take n (slots records)))
  pub both : all + held_by 0 (drop i (take n (slots records))) + held_by 1 (drop i (take n (slots records)))
      ≡ held_by 0 (take n (slots records)) + held_by 1 (take n (slots records))
  pub one : second + held_by 1 (drop i (take n (slots records))) ≡ held_by 1 (take n (slots records))

module _ {records : List (List ℕ)} {n places at all second i : ℕ} (fit : n ≤ length records) (s : Surveying records n places at all second i) where
  abbrev this : Slot
  this = slot (get_or records i [])

  module _ (h : i < n) where
    chain_next : chained places 0 (take n (slots records))
        ≡ ((follows at this && leb this.end places) && chained places this.end (drop (i + 1) (take n (slots records))))
    chain_next = s.chain ∙ ap (chained places at) (here records n i fit h) ∙ first_chained places at this _

    pub surveying_broken : (follows at this && leb this.end places) ≡ false → chained places 0 (take n (slots records)) ≡ false
    surveying_broken e = rw e at chain_next

    module _ (e : (follows at this && leb this.end places) ≡ true) where
      pub followed : Next places at this []
      unfolding chained
      followed = next places at this [] e

      pub surveying_more : (size : ℕ) → size ≡ holding (this.end - at) → Surveying records n places this.end (all + size) (second + this.press * size) (i + 1)
      unfolding end_of held_by
      surveying_more size g =
          let j = followed in
          let f : size ≡ holding (this.end - this.start) = g ∙ ap (λ (k : ℕ). holding (this.end - k)) j.starts in
          let m = second_mine this.press size j.press in
          let t = either_mine this.press size j.press in
          let rest = here records n i fit h in
          record {
            within = omega arith;
            ends = ends_within places this.end j.rest;
            small = omega (arith, s.small, j.starts, j.forward);
            part = omega (arith, s.part);
            chain = rw e at chain_next;
            end = s.end ∙ ap (end_of at) rest;
            both = omega (arith, s.both, ap (held_by 0) rest, ap (held_by 1) rest, ap (if_mine (eqb 0 this.press)) f, ap (if_mine (eqb 1 this.press)) f);
            one = omega (arith, s.one, ap (held_by 1) rest, ap (if_mine (eqb 1 this.press)) f);
          }

  module _ (h : n ≤ i) where
    pub surveyed_chain : chained places 0 (take n (slots records)) ≡ true
    unfolding chained
    surveyed_chain = s.chain ∙ ap (chained places at) (nothing records n i fit h) ∙ le-leb at places s.ends

    pub surveyed_end : at ≡ end_of 0 (take n (slots records))
    unfolding end_of
    surveyed_end = sym (s.end ∙ ap (end_of at) (nothing records n i fit h))

    pub surveyed_second : second ≡ held_by 1 (take n (slots records))
    unfolding held_by
    surveyed_second = omega (arith, s.one, ap (held_by 1) (nothing records n i fit h))

    pub surveyed_first : all - second ≡ held_by 0 (take n (slots records))
    unfolding held_by
    surveyed_first = omega (arith, s.both, s.part, surveyed_second, ap (held_by 0) (nothing records n i fit h), ap (held_by 1) (nothing records n i fit h))

-- record number i runs forward, and ends within the places
pub record Lain (places : ℕ) (s : Slot) : Type 0 where
  pub forward : s.start ≤ s.end
  pub ends : s.end ≤ places

lain_at : (places p : ℕ) (l : List Slot) (i : ℕ) (d : Slot) → chained places p l ≡ true → i < length l → Lain places (get_or l i d)
lain_at places p [] i d e h = absurd (omega arith)
lain_at places p (s ∷ l) zero d e h = let j = next places p s l e in record { forward = j.forward; ends = rises places s.end l j.rest }
lain_at places p (s ∷ l) (suc i) d e h = lain_at places s.end l i d (next places p s l e).rest (omega arith)

pub lain : (places n : ℕ) (records : List (List ℕ)) (i : ℕ) → n ≤ length records → chained places 0 (take n (slots records)) ≡ true → i < n
    → Lain places (slot (get_or records i []))
lain places n records i fit e h =
    let k : i < length (take n (slots records)) = omega (arith, taken records n i fit) in
    subst (Lain places) (get_or-take n (slots records) i (slot []) h ∙ get_or-map slot records i [] (slot []) (omega arith))
    (lain_at places 0 (take n (slots records)) i (slot []) e k)
