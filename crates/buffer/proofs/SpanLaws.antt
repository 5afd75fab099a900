-- Sound spans, met one after the other.
use mathlib.Core.Path.{◌≡◌, refl, sym}
use mathlib.Core.Bool.{Bool, true, ◌&&◌, and_assoc}
use mathlib.Core.List.{List, [], ◌∷◌, map}
use Prim.Native.Nat.{ℕ, zero, suc, ◌+◌, ◌<◌, ◌≤◌, ◌^◌}
use native.Mathlib.Omega.{arith}
use native.Mathlib.Numerals.{add-one}
use lib.Dec.{eqb}
use borrow.Author.Tests.{eqb-true, leb-true}
use lib.ListN.{length, get_or, drop, length-map}
use lib.Seq.{drop-cons}
use Rattle.std.proofs.lemmas.List.{drop_all}
use Rattle.integers.proofs.Logic.{and_left, and_right}
use Rattle.buffer.specs.declared.ranges.Span.{Span}
use Rattle.buffer.specs.Spans.{span, spans, follows, sound_from, sound}
use Rattle.buffer.specs.inside.Ranges.{Movable}
use Rattle.buffer.proofs.ListLaws.{map_at}

-- what is left of a row whose elements are read as spans, from position i on: one more is met, or none is left
module _ {A : Type 0} (read : A → Span) (xs : List A) (n : ℕ) (all : Bool) (p i : ℕ) where
  pub sound_more : (x : A) (s : Span) → i < length xs → x ≡ get_or xs i x → s ≡ read x
      → (all && sound_from p (map read (drop i xs)) n) ≡ ((all && follows p s) && sound_from s.end (map read (drop (i + 1) xs)) n)
  unfolding sound_from
  sound_more x s h e f = rw (drop-cons xs i x h, ← e, ← f, add-one i) (sym (and_assoc all _ _))

  pub sound_done : length xs ≤ i → (all && sound_from p (map read (drop i xs)) n) ≡ (all && eqb p n)
  unfolding sound_from
  sound_done h = rw (drop_all i xs h) refl

-- a span of a sound row: it does not run backward, and ends within the count
pub record Within (n : ℕ) (s : Span) : Type 0 where
  pub forward : s.start ≤ s.end
  pub ends : s.end ≤ n

-- what the first of them says
module _ (p n : ℕ) (s : Span) (l : List Span) (e : sound_from p (s ∷ l) n ≡ true) where
  pub first_starts : p ≡ s.start
  unfolding sound_from
  first_starts = eqb-true _ _ (and_left (eqb p s.start) _ (and_left (follows p s) _ e))

  pub first_forward : s.start ≤ s.end
  unfolding sound_from
  first_forward = leb-true _ _ (and_right (eqb p s.start) _ (and_left (follows p s) _ e))

  pub others_sound : sound_from s.end l n ≡ true
  unfolding sound_from
  others_sound = and_right (follows p s) _ e

pub ends_at : (p n : ℕ) → sound_from p [] n ≡ true → p ≡ n
unfolding sound_from
ends_at p n e = eqb-true p n e

pub rises : (p n : ℕ) (l : List Span) → sound_from p l n ≡ true → p ≤ n
rises p n [] e = omega (arith, ends_at p n e)
rises p n (s ∷ l) e = omega (arith, first_starts p n s l e, first_forward p n s l e, rises s.end n l (others_sound p n s l e))

pub within : (p n : ℕ) (l : List Span) (d : Span) (i : ℕ) → sound_from p l n ≡ true → i < length l → Within n (get_or l i d)
within p n [] d i e h = absurd (omega arith)
within p n (s ∷ l) d zero e h = record { forward = first_forward p n s l e; ends = rises s.end n l (others_sound p n s l e) }
within p n (s ∷ l) d (suc i) e h = within s.end n l d i (others_sound p n s l e) (omega arith)

-- the same of a lent row
pub range_within : (rows : List (List ℕ)) (n i : ℕ) → sound (spans rows) n ≡ true → i < length rows → Within n (span (get_or rows i []))
range_within rows n i e h =
    let w = within 0 n (spans rows) (span []) i e (omega (arith, length-map rows span)) in
    rw (← map_at span rows i (span []) [] h) w

-- sound ranges can be set off as far as their count can
pub movable : (rows : List (List ℕ)) (n m : ℕ) → sound (spans rows) n ≡ true → n + m < 2 ^ 64 → Movable rows m
movable rows n m e h = record {
  starts = λ i l. let w = range_within rows n i e l in omega (arith, w.forward, w.ends);
  ends = λ i l. let w = range_within rows n i e l in omega (arith, w.ends);
}

pub one_movable : (n m : ℕ) → n + m < 2 ^ 64 → Movable ((0 ∷ n ∷ []) ∷ []) m
one_movable n m h = record {
  starts = λ i l. let e : i ≡ 0 = omega arith in rw e (omega arith);
  ends = λ i l. let e : i ≡ 0 = omega arith in rw e h;
}
