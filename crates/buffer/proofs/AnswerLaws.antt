-- Answers, refused or given, and what packing leaves.
use mathlib.Core.Path.{◌≡◌, refl, sym, ◌∙◌, ap}
use mathlib.Core.Bool.{Bool, true, false, ◌&&◌, and-true}
use native.Mathlib.Omega.{arith}
use Rattle.std.proofs.Common.{Err}
use mathlib.Core.List.{List, [], ◌++◌}
use Prim.Native.Nat.{ℕ, zero, suc, ◌≤◌}
use lib.Dec.{T, leb}
use lib.ListN.{length}
use lib.IntN.{ℤ}
use borrow.Author.Tests.{leb-true}
use Rattle.replies.specs.declared.refusal.Refusal.{Refusal}
use Rattle.replies.specs.Refusals.{number}
use Rattle.replies.specs.Ladder.{Rung, first_of, room}
use Rattle.grid.specs.Domain.{count}
use Rattle.integers.proofs.Logic.{and_left, and_right}
use Rattle.replies.proofs.LadderLaws.{numbered}
use Rattle.replies.proofs.RefusalLaws.{refusals_have_numbers, refused_so_far, asked_further, no_room, roomy}
use Rattle.buffer.specs.declared.answer.Packed.{Packed}
use Rattle.buffer.specs.declared.ranges.Span.{Span}
use Rattle.buffer.specs.Spans.{rows}
use Rattle.rows.specs.Rows.{front}
use Rattle.buffer.specs.Answers.{counted, counted_as, packed, packed_as, leaving, enough, outcome, stored}

pub count_refused : (r : Refusal) (k n : ℕ) → number r ≡ k → counted_as (Err r) ≡ counted k n
count_refused r zero n h = absurd (refusals_have_numbers r h)
count_refused r (suc k) n h = rw h

pub count_given : (k n : ℕ) → 0 ≡ k → record { reply = 0; count = n } ≡ counted k n
count_given k n e = rw (← e)

-- what packing leaves, by the number of the first refusal
module _ (p : List ℤ) (cs ss : List Span) (out : List ℤ) (contours shapes : List (List ℕ)) where
  module _ (l : List Rung) (b : Bool) (e : b ≡ enough p cs ss out contours shapes) (r : ℕ) (f : r ≡ first_of (l ++ room b)) where
    outcome_is : outcome r p cs ss out contours shapes ≡ stored l p cs ss out contours shapes
    unfolding stored
    outcome_is = rw (f, e)

    pub stored_refused : (a : Packed) → a ≡ packed r 0 0 0 → (r ≡ 0 → ⊥) → leaving a out contours shapes ≡ stored l p cs ss out contours shapes
    stored_refused a g n = ap (λ (a : Packed). leaving a out contours shapes) g ∙ go r n ∙ outcome_is
      where
        go : (r : ℕ) → (r ≡ 0 → ⊥) → leaving (packed r 0 0 0) out contours shapes ≡ outcome r p cs ss out contours shapes
        go zero n = absurd (n refl)
        go (suc r) n = refl

    pub stored_done : (o : List ℤ) (c s : List (List ℕ)) → r ≡ 0 → o ≡ front p out → c ≡ front (rows cs) contours → s ≡ front (rows ss) shapes
        → leaving (packed 0 (count p) (length cs) (length ss)) o c s ≡ stored l p cs ss out contours shapes
    stored_done o c s z g h k = rw (g, h, k) (ap (λ (k : ℕ). outcome k p cs ss out contours shapes) (sym z) ∙ outcome_is)

  -- a set that is refused, whatever room there is
  pub stored_not : (l : List Rung) (r : Refusal) → number r ≡ first_of l → leaving (packed_as (Err r)) out contours shapes ≡ stored l p cs ss out contours shapes
  stored_not l r e = stored_refused l _ refl (number r) (refused_so_far l _ r e) _ refl (refusals_have_numbers r)

  -- a ladder that refuses nothing leaves the room to decide
  pub stored_clear : (l : List Rung) → T (numbered l) → 0 ≡ first_of l → stored [] p cs ss out contours shapes ≡ stored l p cs ss out contours shapes
  stored_clear l t e =
      sym (outcome_is [] _ refl _ refl)
      ∙ outcome_is l _ refl _ (asked_further l (room (enough p cs ss out contours shapes)) t e refl)

-- a set that there is room for
pub record Fits (a b c : ℕ) (out : List ℤ) (contours shapes : List (List ℕ)) : Type 0 where
  pub points_in : a ≤ length out
  pub contours_in : b ≤ length contours
  pub shapes_in : c ≤ length shapes

-- a set with a ladder that refuses nothing of it, and lengths as they are compared
module _ (p : List ℤ) (cs ss : List Span) (out : List ℤ) (contours shapes : List (List ℕ)) (a b c : ℕ)
    (pa : a ≡ length p) (cb : b ≡ length cs) (sc : c ≡ length ss) (l : List Rung) (t : T (numbered l)) (e : 0 ≡ first_of l) where
  abbrev pub fit : Bool
  fit = leb a (length out) && leb b (length contours) && leb c (length shapes)

  enough_is : fit ≡ enough p cs ss out contours shapes
  enough_is = rw (pa, cb, sc)

  pub packing_no_room : fit ≡ false → leaving (packed 5 0 0 0) out contours shapes ≡ stored l p cs ss out contours shapes
  packing_no_room f = stored_refused p cs ss out contours shapes l _ enough_is 5 (no_room l t e fit f) _ refl (λ z. omega arith)

  pub packing_fits : fit ≡ true → Fits a b c out contours shapes
  packing_fits f =
      let x : Bool = leb a (length out) in
      let y : Bool = leb b (length contours) in
      let xy = and_left (x && y) (leb c (length shapes)) f in
      record {
        points_in = leb-true _ _ (and_left x y xy);
        contours_in = leb-true _ _ (and_right x y xy);
        shapes_in = leb-true _ _ (and_right (x && y) (leb c (length shapes)) f);
      }

  pub packing_done : fit ≡ true → (n : ℕ) (o : List ℤ) (d s : List (List ℕ)) → n ≡ count p → o ≡ front p out → d ≡ front (rows cs) contours → s ≡ front (rows ss) shapes
      → leaving (packed 0 n b c) o d s ≡ stored l p cs ss out contours shapes
  packing_done f n o d s h g i j =
      rw (h, cb, sc) (stored_done p cs ss out contours shapes l _ enough_is 0 (roomy l t e fit f) o d s refl g i j)

-- the same of a contour set, which has no row of shapes
module _ (p : List ℤ) (cs : List Span) (out : List ℤ) (contours : List (List ℕ)) (a b : ℕ)
    (pa : a ≡ length p) (cb : b ≡ length cs) (l : List Rung) (t : T (numbered l)) (e : 0 ≡ first_of l) where
  abbrev pub fit_two : Bool
  fit_two = leb a (length out) && leb b (length contours)

  as_three : {v : Bool} → fit_two ≡ v → fit p cs [] out contours [] a b 0 pa cb refl l t e ≡ v
  as_three f = and-true (leb a (length out) && leb b (length contours)) ∙ f

  pub contours_no_room : fit_two ≡ false → leaving (packed 5 0 0 0) out contours [] ≡ stored l p cs [] out contours []
  contours_no_room f = packing_no_room p cs [] out contours [] a b 0 pa cb refl l t e (as_three f)

  pub contours_fit : fit_two ≡ true → Fits a b 0 out contours []
  contours_fit f = packing_fits p cs [] out contours [] a b 0 pa cb refl l t e (as_three f)

  pub contours_done : fit_two ≡ true → (n : ℕ) (o : List ℤ) (d : List (List ℕ)) → n ≡ count p → o ≡ front p out → d ≡ front (rows cs) contours
      → leaving (packed 0 n b 0) o d [] ≡ stored l p cs [] out contours []
  contours_done f n o d h g i = packing_done p cs [] out contours [] a b 0 pa cb refl l t e (as_three f) n o d [] h g i refl
