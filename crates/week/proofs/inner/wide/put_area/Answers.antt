-- `week::inner::wide::put_area` meets its contract: by the sign of its high part.
use mathlib.Core.Path.{◌≡◌, sym, ◌∙◌, ap}
use mathlib.Core.List.{◌++◌}
use Prim.Native.Nat.{ℕ, ◌+◌, ◌-◌, ◌*◌, ◌^◌}
use native.Mathlib.Omega.{arith}
use lib.IntN.{ℤ, pos, nat_abs}
use lib.Signed.{lt_z}
use mir.Facts.{to_z-of_z}
use lib.ListN.{length}
use Rattle.report.specs.Text.{dash}
use Rattle.figures.specs.Halves.{whole}
use Rattle.week.specs.Table.{long_decimal, long_signed}
use Rattle.week.proofs.AreaLaws.{area_above, area_below, below_some}
use Rattle.week.proofs.inner.wide.put_area.Goals as goal
use Rattle.week.proofs.inner.wide.put_area.Goals.{Then-high-lt0, Else-high-lt0}

-- the words of an area below 0, and of another
below : (c : Then-high-lt0) → long_signed (whole c.args.high c.args.low) ≡ dash ++ long_decimal (c.unsigned_abs-size.result * 2 ^ 32 - c.args.low)
below c =
    let s = c.args in
    area_below s.low c.ranges.low.fits s.high (ap (λ (z : ℤ). lt_z z (pos 0)) (sym (to_z-of_z c.ranges.high)) ∙ c.if-high-lt0.true)
    ∙ ap (λ (n : ℕ). dash ++ long_decimal (n * 2 ^ 32 - s.low)) (sym (c.unsigned_abs-size.ensures.value ∙ ap nat_abs (to_z-of_z c.ranges.high)))

above : (c : Else-high-lt0) → long_signed (whole c.args.high c.args.low) ≡ long_decimal (c.unsigned_abs-size.result * 2 ^ 32 + c.args.low)
above c =
    let s = c.args in
    area_above s.low c.ranges.low.fits s.high (ap (λ (z : ℤ). lt_z z (pos 0)) (sym (to_z-of_z c.ranges.high)) ∙ c.if-high-lt0.false)
    ∙ ap (λ (n : ℕ). long_decimal (n * 2 ^ 32 + s.low)) (sym (c.unsigned_abs-size.ensures.value ∙ ap nat_abs (to_z-of_z c.ranges.high)))

pub put_below-requires : goal.put_below-requires
put_below-requires c =
    let p = below_some c.args.high (ap (λ (z : ℤ). lt_z z (pos 0)) (sym (to_z-of_z c.ranges.high)) ∙ c.if-high-lt0.true) in
    let e = c.unsigned_abs-size.ensures.value ∙ ap nat_abs (to_z-of_z c.ranges.high) in
    record {
      high_nonzero = (omega (arith, p, e), omega (arith, e, c.requires.fact.abs));
      low_in_bounds = omega (arith, c.requires.low_in_bounds, ap length (below (goal.at.put_below-requires c).Then-high-lt0));
    }

pub returns-then-high-lt0 : goal.returns-then-high-lt0
returns-then-high-lt0 c =
    rw (below (goal.at.returns-then-high-lt0 c).Then-high-lt0) c.put_below.ensures

pub put_wide-requires : goal.put_wide-requires
put_wide-requires c =
    let e = c.unsigned_abs-size.ensures.value ∙ ap nat_abs (to_z-of_z c.ranges.high) in
    record { high_bound = omega (arith, e, c.requires.fact.abs); low_in_bounds = rw (sym (above (goal.at.put_wide-requires c).Else-high-lt0)) c.requires.low_in_bounds }

pub returns : goal.returns
returns c =
    rw (above (goal.at.returns c).Else-high-lt0) c.put_wide.ensures
