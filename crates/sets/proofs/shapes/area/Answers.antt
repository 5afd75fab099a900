-- `sets::shapes::area` meets its contract.
use Rattle.std.proofs.Common.{ap, ◌∙◌}
use Rattle.sets.specs.Area.{half_of}
use Rattle.sets.proofs.AreaLaws.{set_half}
use Rattle.sets.proofs.shapes.area.Goals as goal

pub returns : goal.returns
returns c = c.halved.ensures ∙ ap half_of c.area_two.ensures ∙ set_half _ _
