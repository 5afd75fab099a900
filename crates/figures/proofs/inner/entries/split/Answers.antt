-- `figures::inner::entries::split` meets its contract.
use Rattle.std.proofs.Common.{◌∙◌, ap, to_z, of_z, w64, nat_abs, ℤ}
use Rattle.figures.proofs.HalvesLaws.{high_is, low_is}
use Rattle.figures.proofs.inner.entries.split.Goals as goal

pub returns : goal.returns
returns c = (
  ap (λ (z : ℤ). to_z w64 (of_z w64 z)) c.div_euclid.ensures ∙ high_is c.args.area c.ranges.area,
  ap (λ (z : ℤ). nat_abs (to_z w64 (of_z w64 z))) c.rem_euclid.ensures.value ∙ low_is c.args.area c.ranges.area,
)
