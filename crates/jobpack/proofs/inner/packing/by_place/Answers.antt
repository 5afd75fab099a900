-- `jobpack::inner::packing::by_place` meets its contract: by where the reader is.
use mathlib.Core.Path.{◌≡◌, sym, ◌∙◌, ap}
use mathlib.Core.Bool.{Bool}
use mathlib.Core.Logic.{◌⊎◌, inl, inr}
use Prim.Native.Nat.{ℕ, ◌+◌}
use native.Mathlib.Omega.{arith}
use lib.Seq.{length-take-le}
use Rattle.jobread.specs.declared.Place.{Place}
use Rattle.jobread.specs.declared.Place.TheVariants.{Head, Word, Space, Dash, Number, NoHead, NoLine}
use Rattle.jobread.specs.Reading.{State}
use Rattle.jobpack.specs.Packing.{Packed, damaging, packed_at, outcome}
use Rattle.jobread.specs.inside.Rows.{state_of}
use Rattle.jobpack.proofs.inner.packing.by_place.Goals as goal

-- what is told of a text that ends in the line of the edition
head_damaged : (p : Place) (second : Bool) (s : State) → (((k : ℕ) × p ≡ Head k) ⊎ (p ≡ NoHead)) → packed_at p second s ≡ damaging 1
head_damaged p second s (inl (k, e)) = ap (λ (p : Place). packed_at p second s) e
head_damaged p second s (inr e) = ap (λ (p : Place). packed_at p second s) e

-- and in another line
line_damaged : (p : Place) (second : Bool) (s : State)
    → (((b : Bool) × (k : ℕ) × p ≡ Word b k) ⊎ ((p ≡ Space) ⊎ ((p ≡ Dash) ⊎ (((b : Bool) × (k : ℕ) × p ≡ Number b k) ⊎ (p ≡ NoLine)))))
    → packed_at p second s ≡ damaging (s.lines.reader.contours + 2)
line_damaged p second s (inl (b, k, e)) = ap (λ (p : Place). packed_at p second s) e
line_damaged p second s (inr (inl e)) = ap (λ (p : Place). packed_at p second s) e
line_damaged p second s (inr (inr (inl e))) = ap (λ (p : Place). packed_at p second s) e
line_damaged p second s (inr (inr (inr (inl (b, k, e))))) = ap (λ (p : Place). packed_at p second s) e
line_damaged p second s (inr (inr (inr (inr e)))) = ap (λ (p : Place). packed_at p second s) e

-- what is one of the first four is one of the five
of_five : {A B C D E : Type 0} → A ⊎ (B ⊎ (C ⊎ D)) → A ⊎ (B ⊎ (C ⊎ (D ⊎ E)))
of_five (inl a) = inl a
of_five (inr (inl b)) = inr (inl b)
of_five (inr (inr (inl c))) = inr (inr (inl c))
of_five (inr (inr (inr d))) = inr (inr (inr (inl d)))

pub slice_bounds-write-end : goal.slice_bounds-write-end
slice_bounds-write-end c = sym (length-take-le _ _ c.requires.bounded.in_points)

pub slice_bounds-write-end-in-Start : goal.slice_bounds-write-end-in-Start
slice_bounds-write-end-in-Start c = sym (length-take-le _ _ c.requires.bounded.in_contours)

pub slice_bounds-write-end-in-Start-2 : goal.slice_bounds-write-end-in-Start-2
slice_bounds-write-end-in-Start-2 c = sym (length-take-le _ _ c.requires.bounded.in_shapes)

pub overflow_add-k : goal.overflow_add-k
overflow_add-k c = omega (arith, c.requires.bounded.few)

pub returns-in-Head : goal.returns-in-Head
returns-in-Head c =
    let s = c.args in
    c.damaged.ensures ∙ ap (λ (p : Packed). outcome p s.out.now s.words.now) (sym (head_damaged s.reader.place s.second (state_of s.reader s.points.now s.contours.now s.shapes.now) c.in-Head.is))

pub returns-in-Start : goal.returns-in-Start
returns-in-Start c =
    let s = c.args in
    c.write.ensures ∙ ap (λ (p : Place). outcome (packed_at p s.second (state_of s.reader s.points.now s.contours.now s.shapes.now)) s.out.now s.words.now) (sym c.in-Start.is)

pub returns-in-Word : goal.returns-in-Word
returns-in-Word c =
    let s = c.args in
    c.damaged-in-Word.ensures ∙ ap (λ (p : Packed). outcome p s.out.now s.words.now) (sym (line_damaged s.reader.place s.second (state_of s.reader s.points.now s.contours.now s.shapes.now) (of_five c.in-Word.is)))

pub returns-in-NoLine : goal.returns-in-NoLine
returns-in-NoLine c =
    let s = c.args in
    c.damaged-in-NoLine.ensures ∙ ap (λ (p : Packed). outcome p s.out.now s.words.now) (sym (line_damaged s.reader.place s.second (state_of s.reader s.points.now s.contours.now s.shapes.now) (inr (inr (inr (inr c.in-NoLine.is))))))

pub returns-in-Refused : goal.returns-in-Refused
returns-in-Refused c =
    let s = c.args in
    c.refused.ensures ∙ ap (λ (p : Place). outcome (packed_at p s.second (state_of s.reader s.points.now s.contours.now s.shapes.now)) s.out.now s.words.now) (sym c.in-Refused.is)
