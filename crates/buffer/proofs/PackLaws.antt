-- What is known of a set that is packed or added to.
use mathlib.Core.Path.{◌≡◌, refl, sym, ◌∙◌}
use mathlib.Core.Bool.{Bool, true, false, ◌&&◌}
use mathlib.Core.List.{List, [], ◌++◌, map}
use Prim.Native.Nat.{ℕ, ◌+◌, ◌*◌, ◌%◌, ◌<◌, ◌≤◌, ◌^◌}
use native.Mathlib.Omega.{arith}
use lib.ListN.{length, length-append, length-map}
use lib.IntN.{ℤ}
use lib.Dec.{leb}
use borrow.Author.Tests.{ltb-false, eqb-false, not-false}
use Rattle.integers.proofs.Logic.{and_left, and_right}
use Rattle.grid.specs.Limits.{limit, most, all_on_grid}
use Rattle.replies.specs.Ladder.{first_of}
use Rattle.grid.specs.Domain.{count}
use Rattle.replies.proofs.LadderLaws.{first_is, clear}
use Rattle.replies.proofs.LadderLaws.First.{foot}
use Rattle.buffer.specs.Spans.{spans, rows, sound, moved}
use Rattle.buffer.specs.inside.Ranges.{Movable}
use Rattle.buffer.specs.declared.answer.Packed.{Packed}
use Rattle.rows.specs.Rows.{placed}
use Rattle.buffer.specs.Refusals.{both}
use Rattle.buffer.specs.Answers.{packed, leaving, stored}
use Rattle.buffer.specs.Contours as C
use Rattle.buffer.specs.Shapes as S
use Rattle.buffer.proofs.SpanLaws.{movable}
use Rattle.buffer.proofs.RefusalLaws.{accepted}
use Rattle.buffer.proofs.RowLaws.{spans-length, records_front}
use Rattle.rows.proofs.RowLaws.{placed_front}
use Rattle.buffer.proofs.AnswerLaws.{Fits, packing_no_room, packing_fits, packing_done, contours_no_room, contours_fit, contours_done}

pub shape_movable : (p : List ℤ) (cs : List (List ℕ)) (k : ℕ) → k ≡ first_of (C.refusals p cs) → k ≡ 0 → Movable cs 0
unfolding most
shape_movable p cs k e z =
    let a = accepted limit p (sound (spans cs) (count p)) (sym e ∙ z) in
    movable cs (count p) 0 a.sound (omega (arith, a.few))

module _ (p : List ℤ) (cs ss : List (List ℕ)) (k : ℕ) (e : k ≡ first_of (S.refusals p cs ss)) (z : k ≡ 0) where
  pub contours_movable : Movable cs 0
  unfolding most
  contours_movable =
      let a = accepted limit p (sound (spans cs) (count p) && sound (spans ss) (length cs)) (sym e ∙ z) in
      movable cs (count p) 0 (and_left (sound (spans cs) (count p)) _ a.sound) (omega (arith, a.few))

  pub shapes_movable : length cs < 2 ^ 64 → Movable ss 0
  shapes_movable h =
      let a = accepted limit p (sound (spans cs) (count p) && sound (spans ss) (length cs)) (sym e ∙ z) in
      movable ss (length cs) 0 (and_right (sound (spans cs) (count p)) _ a.sound) (omega arith)

-- a set and what is added to it, not refused
pub record Joined (p more : List ℤ) (s : Bool) : Type 0 where
  pub even : length p ≡ 2 * count p
  pub more_even : length more ≡ 2 * count more
  pub few : count p + count more ≤ most
  pub sound : s ≡ true
  pub on : all_on_grid limit p ≡ true
  pub more_on : all_on_grid limit more ≡ true

pub joined : (p more : List ℤ) (s : Bool) (k : ℕ) → k ≡ first_of (both p more s) → k ≡ 0 → Joined p more s
joined p more s k e z =
    let c = clear (both p more s) tt (sym e ∙ z) in
    record {
      even = omega (arith, eqb-false (length p % 2) 1 c.0);
      more_even = omega (arith, eqb-false (length more % 2) 1 c.1.0);
      few = ltb-false _ _ c.1.1.0;
      sound = not-false s c.1.1.1.0;
      on = not-false (all_on_grid limit p) c.1.1.1.1.0;
      more_on = not-false (all_on_grid limit more) c.1.1.1.1.1.0;
    }

pub count-append : (p more : List ℤ) → length p ≡ 2 * count p → count p + count more ≡ count (p ++ more)
count-append p more e = let l : length (p ++ more) ≡ length p + length more = length-append p more in omega arith

pub added-length : (cs more : List (List ℕ)) (n : ℕ) → length cs + length more ≡ length (spans cs ++ map (moved n) (spans more))
added-length cs more n = sym (length-append (spans cs) (map (moved n) (spans more)) ∙ rw (length-map (spans more) (moved n), spans-length cs, spans-length more))

-- what an addition finds sound
pub record SoundParts (p : List ℤ) (cs ss : List (List ℕ)) (more : List ℤ) (mcs : List (List ℕ)) : Type 0 where
  pub contours : sound (spans cs) (count p) ≡ true
  pub shapes : sound (spans ss) (length cs) ≡ true
  pub added : sound (spans mcs) (count more) ≡ true

pub sound_parts : (p : List ℤ) (cs ss : List (List ℕ)) (more : List ℤ) (mcs : List (List ℕ)) → S.both_sound p cs ss more mcs ≡ true → SoundParts p cs ss more mcs
sound_parts p cs ss more mcs e =
    let a : Bool = sound (spans cs) (count p) in
    let b : Bool = sound (spans ss) (length cs) in
    let ab = and_left (a && b) (sound (spans mcs) (count more)) e in
    record { contours = and_left a b ab; shapes = and_right a b ab; added = and_right (a && b) (sound (spans mcs) (count more)) e }

-- packing the contours of a row
module _ (p : List ℤ) (cs : List (List ℕ)) (out : List ℤ) (records : List (List ℕ)) where
  pub pack_done : (leb (length p) (length out) && leb (length cs) (length records)) ≡ true → (o : List ℤ) (d : List (List ℕ))
      → o ≡ placed 0 p out → d ≡ placed 0 (rows (map (moved 0) (spans cs))) records
      → leaving (packed 0 (count p) (length cs) 0) o d [] ≡ stored [] p (spans cs) [] out records []
  pack_done f o d g h =
      contours_done p (spans cs) out records _ _ refl (sym (spans-length cs)) [] tt (first_is [] 0 foot) f _ o d refl (g ∙ placed_front out p) (h ∙ records_front cs records)

  pub pack_no_room : (leb (length p) (length out) && leb (length cs) (length records)) ≡ false → leaving (packed 5 0 0 0) out records [] ≡ stored [] p (spans cs) [] out records []
  pack_no_room f = contours_no_room p (spans cs) out records _ _ refl (sym (spans-length cs)) [] tt (first_is [] 0 foot) f

  pub pack_fits : (leb (length p) (length out) && leb (length cs) (length records)) ≡ true → Fits (length p) (length cs) 0 out records []
  pack_fits f = contours_fit p (spans cs) out records _ _ refl (sym (spans-length cs)) [] tt (first_is [] 0 foot) f

-- packing the shapes of a row
module _ (p : List ℤ) (cs ss : List (List ℕ)) (out : List ℤ) (records groups : List (List ℕ)) where
  abbrev roomy : Bool → Type 0
  roomy b = (leb (length p) (length out) && leb (length cs) (length records) && leb (length ss) (length groups)) ≡ b

  pub group_done : roomy true → (o : List ℤ) (c d : List (List ℕ)) → o ≡ placed 0 p out
      → c ≡ placed 0 (rows (map (moved 0) (spans cs))) records → d ≡ placed 0 (rows (map (moved 0) (spans ss))) groups
      → leaving (packed 0 (count p) (length cs) (length ss)) o c d ≡ stored [] p (spans cs) (spans ss) out records groups
  group_done f o c d g h i =
      packing_done p (spans cs) (spans ss) out records groups _ _ _ refl (sym (spans-length cs)) (sym (spans-length ss)) [] tt (first_is [] 0 foot) f _ o c d refl
      (g ∙ placed_front out p) (h ∙ records_front cs records) (i ∙ records_front ss groups)

  pub group_no_room : roomy false → leaving (packed 5 0 0 0) out records groups ≡ stored [] p (spans cs) (spans ss) out records groups
  group_no_room f = packing_no_room p (spans cs) (spans ss) out records groups _ _ _ refl (sym (spans-length cs)) (sym (spans-length ss)) [] tt (first_is [] 0 foot) f

  pub group_fits : roomy true → Fits (length p) (length cs) (length ss) out records groups
  group_fits f = packing_fits p (spans cs) (spans ss) out records groups _ _ _ refl (sym (spans-length cs)) (sym (spans-length ss)) [] tt (first_is [] 0 foot) f
