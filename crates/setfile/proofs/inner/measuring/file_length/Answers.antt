-- `setfile::inner::measuring::file_length` meets its contract: what was counted and what is left make all, and the widths so far are kept.
use Rattle.std.proofs.Common.{◌≡◌, ℕ, ◌+◌, ◌/◌, ◌≤◌, List, [], length, get_or, ℤ, refl, ap, ◌∙◌, ap₂, arith, length-set}
use mir.Facts.{Fits-of_lt}
use Rattle.steps.specs.Steps.{differences}
use Rattle.steps.specs.Bodies.{contour_width, body_size}
use Rattle.steps.proofs.BodyLaws.{width_within_32}
use Rattle.buffer.specs.Spans.{span}
use Rattle.buffer.specs.Sets.{contour}
use Rattle.buffer.proofs.PartLaws.{same_numbers}
use Rattle.setfile.specs.inside.Writing.{Countable, written_size}
use Rattle.setfile.proofs.MeasureLaws.{size_within, size_more, size_done, widths_more}
use Rattle.setfile.proofs.inner.measuring.file_length.Goals as goal

-- the contour of a number
abbrev part : List ℤ → List (List ℕ) → ℕ → List ℤ
part p cs k = contour p (span (get_or cs k []))

narrow : {w : ℕ} (l : List ℤ) → w ≡ contour_width l → w ≤ 32
narrow l e = rw e (width_within_32 (differences l))

-- the bits of a contour, as the code counts them: no more than those of 32,767 points of 64
module _ {named c : List ℤ} (e : named ≡ c) where
  sized : {w n : ℕ} → w ≡ contour_width named → n ≡ 22 + body_size (length named / 2) w → n ≡ written_size c
  sized g h = h ∙ ap₂ (λ (n w : ℕ). 22 + body_size n w) (ap (λ (l : List ℤ). length l / 2) e) (g ∙ ap contour_width e)

  short : {w n : ℕ} → Countable c → w ≡ contour_width named → n ≡ 22 + body_size (length named / 2) w → n ≤ 2097110
  short few g h = rw (sized g h) (omega (arith, few.short, size_within c))

pub loop-k-init : goal.loop-k-init
loop-k-init c = (omega arith, refl, λ j l. absurd (omega arith), refl)

pub width-width-requires : goal.width-width-requires
width-width-requires c = let n = (c.requires.0 _ c.loop-k-test.true).1 in rw (same_numbers c.named-contour.ensures) (n.even, n.on)

pub overflow_cast-widths : goal.overflow_cast-widths
overflow_cast-widths c = Fits-of_lt (omega (arith, narrow _ c.width-width.ensures))

pub second_size-bits-requires : goal.second_size-bits-requires
second_size-bits-requires c = (rw (same_numbers c.named-contour.ensures) (c.requires.0 _ c.loop-k-test.true).1.short, omega (arith, narrow _ c.width-width.ensures))

pub overflow_add-bits : goal.overflow_add-bits
overflow_add-bits c =
    omega (arith, short (same_numbers c.named-contour.ensures) (c.requires.0 _ c.loop-k-test.true).1 c.width-width.ensures c.second_size-bits.ensures, c.loop-k.invariant.0, c.requires.1, c.loop-k-test.true)

pub loop-k-preserved : goal.loop-k-preserved
loop-k-preserved c =
    let v = c.loop-k.invariant in
    let h = c.loop-k-test.true in
    let p = c.args.points.now in
    let cs = c.args.contours.now in (
      omega (arith, short (same_numbers c.named-contour.ensures) (c.requires.0 _ c.loop-k-test.true).1 c.width-width.ensures c.second_size-bits.ensures, v.0),
      omega (arith, v.1, sized (same_numbers c.named-contour.ensures) c.width-width.ensures c.second_size-bits.ensures, size_more p cs c.loop-k.k h (part p cs c.loop-k.k) refl),
      widths_more (λ (j : ℕ). contour_width (part p cs j)) c.loop-k.widths c.loop-k.k c.width-width.result (omega (arith, v.3, c.requires.2, h)) v.2 (c.width-width.ensures ∙ ap contour_width (same_numbers c.named-contour.ensures)),
      simp length-set v.3,
    )

pub returns : goal.returns
returns c =
    let l = c.loop-k in (
      omega (arith, l.invariant.1, size_done c.args.points.now c.args.contours.now l.k (omega arith)),
      record { all = omega (arith, l.invariant.3, c.requires.2); is = λ j h. l.invariant.2 j (omega arith) },
    )
