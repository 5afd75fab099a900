-- `millimetres::on_grid` meets its contract: what lies less than half a unit past the last coordinate is rounded to one.
use mathlib.Core.Path.{◌∙◌}
use lib.Ieee.{neg, of_bits}
use Rattle.millimetres.proofs.UnitLaws.{on_inside, on_outside}
use Rattle.millimetres.proofs.on_grid.Goals as goal

pub returns-then-v : goal.returns-then-v
unfolding neg of_bits
returns-then-v c = on_inside c.args.v c.if-v.true

pub returns-else-v : goal.returns-else-v
unfolding neg of_bits
returns-else-v c = c.if-v.false ∙ on_outside c.args.v c.if-v.false
