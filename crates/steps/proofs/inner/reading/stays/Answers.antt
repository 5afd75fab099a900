-- `steps::inner::reading::stays` meets its contract.
use mathlib.Core.Path.{◌∙◌, ap}
use Prim.Native.Nat.{◌-◌}
use native.Mathlib.Omega.{arith}
use lib.IntN.{nat_abs}
use mir.Facts.{to_z-of_z}
use Rattle.std.proofs.lemmas.Nat.{one_shl}
use Rattle.grid.specs.Limits.{limit}
use Rattle.steps.proofs.inner.reading.stays.Goals as goal

pub returns : goal.returns
unfolding limit
returns c =
    let far = c.from.ensures ∙ c.unsigned_abs.ensures.value ∙ ap nat_abs (to_z-of_z c.ranges.x) in
    rw (one_shl (c.args.width - 1) 64 (omega (arith, c.requires.0.few)), far, c.from-2.ensures)
