-- `steps::inner::pairs::four` meets its contract.
use native.Mathlib.Omega.{arith}
use mathlib.Core.Path.{◌≡◌, ◌∙◌, ap, ap₂}
use mathlib.Core.Bool.{true}
use mathlib.Core.List.{List}
use Prim.Native.Nat.{ℕ, ◌+◌, ◌*◌, ◌^◌, ◌<◌}
use lib.ListN.{length, drop}
use lib.IntN.{ℤ, pos}
use lib.Signed.{mag}
use mir.Syntax.{w64}
use mir.Val.{to_z, of_z}
use mir.Facts.{to_z-of_z, Fits-of_lt}
use Rattle.bits.specs.Signs.{fits, all_fit}
use Rattle.steps.specs.Steps.{differences}
use Rattle.steps.specs.inside.Asked.{step, joined}
use Rattle.steps.proofs.WriteLaws.{fit_point, first_fits, second_fits}
use Rattle.steps.proofs.PairLaws.{middle, middle_below, up, up_below, up_turned, rising, raised_is, word_fits, word_turned}
use borrow.Author.Rules.{sfits_of}
use Rattle.steps.proofs.inner.pairs.four.Goals as goal

-- a point as one number, as it was computed by the scale
point_is : (l : List ℤ) (w k : ℕ) {s r : ℤ} → mag s < 2 ^ 63 → s ≡ pos (2 ^ w) → mag r < 2 ^ 63 → r ≡ joined (to_z w64 (of_z w64 s)) l k → to_z w64 (of_z w64 r) ≡ joined (pos (2 ^ w)) l k
point_is l w k p d q e =
    to_z-of_z {w = w64} (sfits_of q) ∙ e ∙ ap (λ (z : ℤ). joined z l k) (to_z-of_z {w = w64} (sfits_of p) ∙ d)

-- two points behind the first
behind_is : (l : List ℤ) (w k : ℕ) {r : ℤ} → r ≡ joined (pos (2 ^ w)) l (k + 4) → r ≡ joined (pos (2 ^ w)) l (k + 2 + 2)
behind_is l w k e =
    let n : k + 4 ≡ k + 2 + 2 = omega arith in
    e ∙ ap (λ (i : ℕ). joined (pos (2 ^ w)) l i) n

-- the four differences fit
module _ (l : List ℤ) (w k : ℕ) (some : 0 < w) (long : k + 5 < length l) (f : all_fit w (differences (drop k l)) ≡ true) where
  left : all_fit w (differences (drop (k + 2) l)) ≡ true
  left = fit_point l w k some (omega (arith, long)) f

  fits_0 : fits w (step l k) ≡ true
  fits_0 = first_fits l w k some (omega (arith, long)) f

  fits_1 : fits w (step l (k + 1)) ≡ true
  fits_1 = second_fits l w k some (omega (arith, long)) f

  fits-2 : fits w (step l (k + 2)) ≡ true
  fits-2 = first_fits l w (k + 2) some (omega (arith, long)) left

  fits-3 : fits w (step l (k + 2 + 1)) ≡ true
  fits-3 = second_fits l w (k + 2) some (omega (arith, long)) left

-- both points, raised
first_is : (c : goal.After-raised-second) →
    c.raised-first.result ≡ up c.args.contour.now c.args.width c.args.k c.requires.2 (fits_0 c.args.contour.now c.args.width c.args.k c.requires.2.some c.requires.0 c.requires.3) (fits_1 c.args.contour.now c.args.width c.args.k c.requires.2.some c.requires.0 c.requires.3)
first_is c =
    raised_is c.args.contour.now c.args.width c.args.k c.requires.2 (fits_0 c.args.contour.now c.args.width c.args.k c.requires.2.some c.requires.0 c.requires.3) (fits_1 c.args.contour.now c.args.width c.args.k c.requires.2.some c.requires.0 c.requires.3) _ _ (to_z-of_z c.ranges.from ∙ c.requires.4) (point_is c.args.contour.now c.args.width (c.args.k + 2) c.scale-scale.type_inv c.scale-scale.ensures c.joined-between.type_inv c.joined-between.ensures) _ _ c.halves-halves.ensures c.raised-first.ensures

second_is : (c : goal.After-raised-second) →
    c.raised-second.result ≡ up c.args.contour.now c.args.width (c.args.k + 2) c.requires.2 (fits-2 c.args.contour.now c.args.width c.args.k c.requires.2.some c.requires.0 c.requires.3) (fits-3 c.args.contour.now c.args.width c.args.k c.requires.2.some c.requires.0 c.requires.3)
second_is c =
    raised_is c.args.contour.now c.args.width (c.args.k + 2) c.requires.2 (fits-2 c.args.contour.now c.args.width c.args.k c.requires.2.some c.requires.0 c.requires.3) (fits-3 c.args.contour.now c.args.width c.args.k c.requires.2.some c.requires.0 c.requires.3) _ _ (point_is c.args.contour.now c.args.width (c.args.k + 2) c.scale-scale.type_inv c.scale-scale.ensures c.joined-between.type_inv c.joined-between.ensures) (behind_is c.args.contour.now c.args.width c.args.k (point_is c.args.contour.now c.args.width (c.args.k + 4) c.scale-scale.type_inv c.scale-scale.ensures c.joined-last.type_inv c.joined-last.ensures)) _ _ c.halves-halves.ensures c.raised-second.ensures

pub raised-first-requires : goal.raised-first-requires
raised-first-requires c =
    rising c.args.contour.now c.args.width c.args.k c.requires.2 (fits_0 c.args.contour.now c.args.width c.args.k c.requires.2.some c.requires.0 c.requires.3) (fits_1 c.args.contour.now c.args.width c.args.k c.requires.2.some c.requires.0 c.requires.3) c.requires.1 _ _ (to_z-of_z c.ranges.from ∙ c.requires.4) (point_is c.args.contour.now c.args.width (c.args.k + 2) c.scale-scale.type_inv c.scale-scale.ensures c.joined-between.type_inv c.joined-between.ensures) _ c.halves-halves.ensures

pub raised-second-requires : goal.raised-second-requires
raised-second-requires c =
    rising c.args.contour.now c.args.width (c.args.k + 2) c.requires.2 (fits-2 c.args.contour.now c.args.width c.args.k c.requires.2.some c.requires.0 c.requires.3) (fits-3 c.args.contour.now c.args.width c.args.k c.requires.2.some c.requires.0 c.requires.3) c.requires.1 _ _ (point_is c.args.contour.now c.args.width (c.args.k + 2) c.scale-scale.type_inv c.scale-scale.ensures c.joined-between.type_inv c.joined-between.ensures) (behind_is c.args.contour.now c.args.width c.args.k (point_is c.args.contour.now c.args.width (c.args.k + 4) c.scale-scale.type_inv c.scale-scale.ensures c.joined-last.type_inv c.joined-last.ensures)) _ c.halves-halves.ensures

pub overflow_add-turned : goal.overflow_add-turned
overflow_add-turned c =
    let m = middle_below c.args.width c.requires.2.some in
    rw c.halves-halves.ensures (Fits-of_lt (word_fits c.args.width c.requires.2 (middle c.args.width) (middle c.args.width) m m))

pub overflow_add-result : goal.overflow_add-result
overflow_add-result c =
    rw (first_is c, second_is c)
    (Fits-of_lt (word_fits c.args.width c.requires.2 _ _ (up_below c.args.contour.now c.args.width c.args.k c.requires.2 (fits_0 c.args.contour.now c.args.width c.args.k c.requires.2.some c.requires.0 c.requires.3) (fits_1 c.args.contour.now c.args.width c.args.k c.requires.2.some c.requires.0 c.requires.3)) (up_below c.args.contour.now c.args.width (c.args.k + 2) c.requires.2 (fits-2 c.args.contour.now c.args.width c.args.k c.requires.2.some c.requires.0 c.requires.3) (fits-3 c.args.contour.now c.args.width c.args.k c.requires.2.some c.requires.0 c.requires.3))))

pub returns : goal.returns
returns c =
    let w = c.args.width in
    let below = up_below c.args.contour.now w c.args.k c.requires.2 (fits_0 c.args.contour.now c.args.width c.args.k c.requires.2.some c.requires.0 c.requires.3) (fits_1 c.args.contour.now c.args.width c.args.k c.requires.2.some c.requires.0 c.requires.3) in
    let below-too = up_below c.args.contour.now w (c.args.k + 2) c.requires.2 (fits-2 c.args.contour.now c.args.width c.args.k c.requires.2.some c.requires.0 c.requires.3) (fits-3 c.args.contour.now c.args.width c.args.k c.requires.2.some c.requires.0 c.requires.3) in (
      rw (first_is c, second_is c, c.halves-halves.ensures) (word_turned w c.requires.2 _ _ below below-too
          ∙ ap₂ (λ (a b : ℕ). a * 2 ^ (2 * w) + b) (up_turned c.args.contour.now w c.args.k c.requires.2 (fits_0 c.args.contour.now c.args.width c.args.k c.requires.2.some c.requires.0 c.requires.3) (fits_1 c.args.contour.now c.args.width c.args.k c.requires.2.some c.requires.0 c.requires.3)) (up_turned c.args.contour.now w (c.args.k + 2) c.requires.2 (fits-2 c.args.contour.now c.args.width c.args.k c.requires.2.some c.requires.0 c.requires.3) (fits-3 c.args.contour.now c.args.width c.args.k c.requires.2.some c.requires.0 c.requires.3))),
      point_is c.args.contour.now w (c.args.k + 4) c.scale-scale.type_inv c.scale-scale.ensures c.joined-last.type_inv c.joined-last.ensures,
    )
