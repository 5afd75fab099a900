-- `ukmerelt::contours::ukm_locate` meets its contract.
use mathlib.Core.Path.{◌∙◌}
use Rattle.path.specs.Locate.{located}
use Rattle.ukmerelt.proofs.Coordinates.{handed_on}
use Rattle.ukmerelt.proofs.contours.ukm_locate.Goals as goal

pub returns : goal.returns
returns c =
    c.from.ensures ∙ c.locate.ensures ∙ handed_on (located c.args.points.now) c.ranges.x c.ranges.y
