-- `millimetres::finite` meets its contract.
use mathlib.Core.Path.{◌∙◌}
use Rattle.millimetres.proofs.UnitLaws.{finite_is}
use Rattle.millimetres.proofs.finite.Goals as goal

pub returns : goal.returns
returns c = c.is_finite.ensures.value ∙ finite_is c.args.v
