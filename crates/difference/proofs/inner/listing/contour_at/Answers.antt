-- `difference::inner::listing::contour_at` meets its contract: the range is one of a sound set.
use mathlib.Core.Path.{◌∙◌}
use Rattle.rows.specs.Parts.{part}
use Rattle.buffer.proofs.PartLaws.{same_numbers}
use Rattle.difference.proofs.ListLaws.{handed_is}
use Rattle.difference.proofs.inner.listing.contour_at.Goals as goal

pub returns : goal.returns
returns c =
    same_numbers c.reached.ensures ∙ handed_is (part c.args.points) c.args.ranges.now c.requires.0 c.args.k c.requires.1
