-- The loop that counts the positions with one mark.
use Prim.Native.Nat.{ℕ, ◌+◌, ◌<◌, ◌≤◌}
use native.Mathlib.Omega.{arith}
use native.Mathlib.Numerals.{add-one}
use mathlib.Core.Path.{◌≡◌, ◌∙◌, ap}
use mathlib.Core.Logic.{⊎_elim}
use mathlib.Core.Bool.{Bool}
use mathlib.Core.List.{List}
use lib.ListN.{length, get_or, drop}
use lib.Seq.{drop-cons, drop-length}
use lib.Dec.{eqb}
use borrow.Author.Tests.{eq-eqb, ne_eqb}
use Rattle.ring.specs.Walk.{marked, removed, occurrences}
use Rattle.ring.proofs.Branches.{same?}
use Rattle.ring.proofs.Marks.{count-cons}
use Rattle.std.specs.Int.{from_bool as one}

-- so many were found below position i
pub record Found (x : ℕ) (m : List ℕ) (found i : ℕ) : Type 0 where
  pub few : found ≤ i
  pub within : i ≤ length m
  pub is : found + occurrences x (drop i m) ≡ occurrences x m

module _ (x : ℕ) (m : List ℕ) where
  pub found_none : Found x m 0 0
  found_none = record { few = omega arith; within = omega arith; is = omega arith }

  module _ {found i : ℕ} (f : Found x m found i) where
    step : (h : i < length m) (b : Bool) → eqb (get_or m i 0) x ≡ b → occurrences x (drop i m) ≡ one b + occurrences x (drop (i + 1) m)
    step h b e = rw (drop-cons m i 0 h, add-one i) (count-cons x (get_or m i 0) _ ∙ rw e)

    pub found_one : i < length m → get_or m i 0 ≡ x → Found x m (found + 1) (i + 1)
    found_one h e = record { few = omega (arith, f.few); within = omega arith; is = omega (arith, f.is, step h _ (eq-eqb _ _ e)) }

    pub found_other : i < length m → (get_or m i 0 ≡ x → ⊥) → Found x m found (i + 1)
    found_other h e = record { few = omega (arith, f.few); within = omega arith; is = omega (arith, f.is, step h _ (ne_eqb _ _ e)) }

    pub found_all : length m ≤ i → found ≡ occurrences x m
    unfolding occurrences
    found_all h =
        let e : i ≡ length m = omega (arith, f.within) in
        let z : occurrences x (drop i m) ≡ 0 = ap (λ k. occurrences x (drop k m)) e ∙ ap (occurrences x) (drop-length m) in
        omega (arith, f.is)

-- a survivor's mark is what it adds to those that are marked
pub found_mark : (m : List ℕ) {found i : ℕ} → Found marked m found i → i < length m → get_or m i 0 < removed → Found marked m (found + get_or m i 0) (i + 1)
found_mark m {found} {i} f h s = ⊎_elim
    (λ e. rw e (found_one marked m f h e))
    (λ n. let z : found + get_or m i 0 ≡ found = omega arith in rw z (found_other marked m f h n))
    (same? (get_or m i 0) marked)
