-- What an import refuses and leaves.
use mathlib.Core.Path.{◌≡◌, refl, sym, ap, ap₂, ◌∙◌}
use mathlib.Core.Bool.{Bool, true, false, not, ◌&&◌, and-true}
use mathlib.Core.List.{List, [], ◌∷◌, ◌++◌, map}
use Prim.Native.Nat.{ℕ, zero, suc, ◌/◌, ◌≤◌, ◌<◌}
use native.Mathlib.Omega.{arith}
use lib.Dec.{leb, ltb, eqb, eqb-suc-zero}
use lib.ListN.{length, length-map}
use lib.IntN.{ℤ}
use lib.Ieee.{Float}
use borrow.Author.Tests.{eqb-true, leb-true, ltb-false, eq-eqb, ne_eqb, lt-ltb, le-ltb}
use Rattle.integers.proofs.Logic.{and_left, and_right}
use Rattle.grid.specs.Limits.{most}
use Rattle.std.proofs.Common.{Err}
use Rattle.replies.specs.declared.refusal.Refusal.{Refusal}
use Rattle.replies.specs.Refusals.{number}
use Rattle.replies.specs.Ladder.{Rung, first_of, so_far, room}
use Rattle.grid.specs.Domain.{count}
use Rattle.rows.specs.Rows.{front}
use Rattle.replies.proofs.LadderLaws.{First, first_is}
use Rattle.replies.proofs.LadderLaws.First.{here, past, foot}
use Rattle.buffer.specs.declared.ranges.Span.{Span}
use Rattle.buffer.specs.Spans.{rows, laid}
use Rattle.buffer.specs.Sets.{joined, contour_spans}
use Rattle.buffer.specs.Answers.{packed, packed_as, leaving, enough}
use Rattle.buffer.proofs.AnswerLaws.{stored_refused, stored_not, stored_done}
use Rattle.buffer.proofs.SetLaws.{laid-length}
use Rattle.millimetres.specs.Scale.{units}
use Rattle.drawing.specs.Commands.{asked, items}
use Rattle.drawing.specs.Faults.{first_fault}
use Rattle.drawing.specs.Importing.{drawn, refusals, outcome}
use Rattle.drawing.specs.inside.Rows.{Coordinates, sizes}
use Rattle.drawing.proofs.OutlineLaws.{Sound, sound_if, coordinates, numbers_are, points_are, sizes_are}

-- a drawing that is not refused, room aside
pub record Taken (kinds : List ℕ) (floats : List Float) : Type 0 where
  pub matching : length floats ≡ asked kinds
  pub faultless : first_fault false (items kinds floats) ≡ 0
  pub few : count (joined (drawn kinds floats)) ≤ most

-- the number of the first refusal
module _ (kinds : List ℕ) (floats : List Float) where
  pub lengths_differ : (length floats ≡ asked kinds → ⊥) → 13 ≡ first_of (refusals kinds floats)
  lengths_differ n = first_is _ _ (here (ap not (ne_eqb (length floats) (asked kinds) n)))

  module _ (h : length floats ≡ asked kinds) (r : ℕ) (e : r ≡ first_fault false (items kinds floats)) where
    pub fault_found : (r ≡ 0 → ⊥) → r ≡ first_of (refusals kinds floats)
    fault_found n =
        e ∙ first_is _ _ (past (ap not (eq-eqb _ _ h)) (here (ap not (ne_eqb (first_fault false (items kinds floats)) 0 (λ z. n (e ∙ z))))))

    module _ (z : r ≡ 0) where
      pub no_fault : Sound false kinds floats
      no_fault = sound_if false kinds floats (sym e ∙ z) h

      pub too_many : most < length floats / 2 → 2 ≡ first_of (refusals kinds floats)
      too_many m =
          first_is _ _
          (past (ap not (eq-eqb _ _ h))
          (past (ap not (eq-eqb _ _ (sym e ∙ z)))
          (here (lt-ltb most (count (joined (drawn kinds floats))) (omega (arith, points_are no_fault))))))

      pub not_refused : length floats / 2 ≤ most → 0 ≡ first_of (refusals kinds floats)
      not_refused m =
          first_is _ _
          (past (ap not (eq-eqb _ _ h))
          (past (ap not (eq-eqb _ _ (sym e ∙ z)))
          (past (le-ltb most (count (joined (drawn kinds floats))) (omega (arith, points_are no_fault))) foot)))

  -- past its rungs
  pub taken_past : Taken kinds floats → (l : List Rung) (s : ℕ) → First l s → First (refusals kinds floats ++ l) s
  taken_past t l s x =
      past (ap not (eq-eqb _ _ t.matching))
      (past (ap not (eq-eqb _ _ t.faultless))
      (past (le-ltb most (count (joined (drawn kinds floats))) t.few) x))

  pub taken_if : first_of (refusals kinds floats) ≡ 0 → Taken kinds floats
  unfolding first_of
  taken_if e = go (eqb (length floats) (asked kinds)) refl (first_fault false (items kinds floats)) refl e
    where
      go : (b : Bool) → eqb (length floats) (asked kinds) ≡ b → (f : ℕ) → first_fault false (items kinds floats) ≡ f
          → first_of ((not b, 13) ∷ so_far f ++ (ltb most (count (joined (drawn kinds floats))), 2) ∷ []) ≡ 0 → Taken kinds floats
      go false p f q h = absurd (omega arith)
      go true p (suc f) q h = absurd (no (first_is ((false, 13) ∷ so_far (suc f) ++ (ltb most (count (joined (drawn kinds floats))), 2) ∷ []) (suc f) (past refl (here (ap not (eqb-suc-zero f)))) ∙ h))
        where
          no : suc f ≡ 0 → ⊥
          no z = omega arith
      go true p zero q h = record { matching = eqb-true _ _ p; faultless = q; few = over (ltb most (count (joined (drawn kinds floats)))) refl h }
        where
          over : (c : Bool) → ltb most (count (joined (drawn kinds floats))) ≡ c → first_of ((c, 2) ∷ []) ≡ 0 → count (joined (drawn kinds floats)) ≤ most
          over true o g = absurd (omega arith)
          over false o g = ltb-false _ _ o

  pub taken_sound : Taken kinds floats → Sound false kinds floats
  taken_sound t = sound_if false kinds floats t.faultless t.matching

-- the set that is written
module _ (kinds : List ℕ) (floats : List Float) where
  pub spans_are : contour_spans (drawn kinds floats) ≡ laid 0 (sizes kinds)
  spans_are = ap (laid 0) (sizes_are kinds floats)

  spans-length : length (contour_spans (drawn kinds floats)) ≡ length (sizes kinds)
  spans-length = ap length spans_are ∙ laid-length 0 (sizes kinds)

  numbers-length : Taken kinds floats → length (joined (drawn kinds floats)) ≡ length floats
  numbers-length t = ap length (numbers_are (taken_sound kinds floats t)) ∙ length-map floats units

-- a drawing that is refused
pub import_refused : (kinds : List ℕ) (floats : List Float) (out : List ℤ) (records : List (List ℕ)) (r : Refusal)
    → number r ≡ first_of (refusals kinds floats) → leaving (packed_as (Err r)) out records [] ≡ outcome kinds floats out records
import_refused kinds floats out records = stored_not (joined (drawn kinds floats)) (contour_spans (drawn kinds floats)) [] out records [] (refusals kinds floats)

-- nothing is refused of a drawing, room aside, and n counts its contours
module _ (kinds : List ℕ) (floats : List Float) (out : List ℤ) (records : List (List ℕ)) (clear : 0 ≡ first_of (refusals kinds floats)) (n : ℕ) (contours : n ≡ length (sizes kinds)) where
  abbrev tested : Bool
  tested = leb (length floats) (length out) && leb n (length records)

  abbrev enough_for : Bool
  enough_for = enough (joined (drawn kinds floats)) (contour_spans (drawn kinds floats)) [] out records []

  taken : Taken kinds floats
  taken = taken_if kinds floats (sym clear)

  same_room : tested ≡ enough_for
  same_room =
      ap₂ (λ (a b : ℕ). leb a (length out) && leb b (length records)) (sym (numbers-length kinds floats taken)) (contours ∙ sym (spans-length kinds floats))
      ∙ sym (and-true (leb (length (joined (drawn kinds floats))) (length out) && leb (length (contour_spans (drawn kinds floats))) (length records)))

  pub import_no_room : tested ≡ false → leaving (packed 5 0 0 0) out records [] ≡ outcome kinds floats out records
  import_no_room f =
      stored_refused (joined (drawn kinds floats)) (contour_spans (drawn kinds floats)) [] out records [] (refusals kinds floats) enough_for refl 5
      (first_is _ 5 (taken_past kinds floats taken (room enough_for) 5 (here (ap not (sym same_room ∙ f))))) _ refl (λ z. omega arith)

  module _ (f : tested ≡ true) where
    pub import_points : Coordinates floats × (length floats ≤ length out)
    import_points = (coordinates (taken_sound kinds floats taken), leb-true _ _ (and_left (leb (length floats) (length out)) (leb n (length records)) f))

    pub import_ranges : length (sizes kinds) ≤ length records
    import_ranges =
        let h : n ≤ length records = leb-true _ _ (and_right (leb (length floats) (length out)) (leb n (length records)) f) in
        omega (arith, contours)

    pub import_done : (o : List ℤ) (d : List (List ℕ)) → o ≡ front (map units floats) out → d ≡ front (rows (laid 0 (sizes kinds))) records
        → leaving (packed 0 (length floats / 2) n 0) o d [] ≡ outcome kinds floats out records
    import_done o d g h =
        ap₂ (λ (a b : ℕ). leaving (packed 0 a b 0) o d []) (sym (points_are (taken_sound kinds floats taken))) (contours ∙ sym (spans-length kinds floats))
        ∙ stored_done (joined (drawn kinds floats)) (contour_spans (drawn kinds floats)) [] out records [] (refusals kinds floats) enough_for refl 0 (first_is _ 0 (taken_past kinds floats taken (room enough_for) 0 (past (ap not (sym same_room ∙ f)) foot))) o d [] refl
        (g ∙ ap (λ (l : List ℤ). front l out) (sym (numbers_are (taken_sound kinds floats taken))))
        (h ∙ ap (λ (l : List Span). front (rows l) records) (sym (spans_are kinds floats)))
        refl
