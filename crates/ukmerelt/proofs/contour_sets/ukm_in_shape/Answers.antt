-- `ukmerelt::contour_sets::ukm_in_shape` meets its contract.
use mathlib.Core.Path.{◌∙◌}
use Rattle.sets.specs.Contains.{in_shape}
use Rattle.ukmerelt.proofs.Coordinates.{handed_on}
use Rattle.ukmerelt.proofs.contour_sets.ukm_in_shape.Goals as goal

pub returns : goal.returns
returns c =
    c.from.ensures ∙ c.in_shape.ensures ∙ handed_on (in_shape c.args.points.now c.args.ranges.now) c.ranges.x c.ranges.y
