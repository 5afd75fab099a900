-- `ukmerelt::contours::ukm_contains` meets its contract.
use mathlib.Core.Path.{◌∙◌}
use Rattle.path.specs.Contains.{contains}
use Rattle.ukmerelt.proofs.Coordinates.{handed_on}
use Rattle.ukmerelt.proofs.contours.ukm_contains.Goals as goal

pub returns : goal.returns
returns c =
    c.from.ensures ∙ c.contains_point.ensures ∙ handed_on (contains c.args.points.now) c.ranges.x c.ranges.y
