-- `millimetres::exact` meets its contract: the literal is 1,024, and the call reads x back from its bits.
use Rattle.std.proofs.Common.{ap, ap₂, ◌∙◌, to_z-of_z}
use lib.Ieee.{Float, binary64, div, of_int}
use Rattle.millimetres.specs.Scale.{millimetres}
use Rattle.millimetres.proofs.ExactLaws.{literal}
use Rattle.millimetres.proofs.exact.Goals as goal

pub returns : goal.returns
unfolding millimetres
returns c = ap₂ (λ (x y : Float). div binary64 x y) (c.from.ensures ∙ ap (of_int binary64) (to_z-of_z c.ranges.x)) literal
