-- `sets::inner::containing::location` meets its contract.
use Rattle.std.proofs.Common.{List, ℤ, ap, ◌∙◌}
use Rattle.replies.specs.Ladder.{first_of}
use Rattle.grid.specs.Limits.{limit}
use Rattle.grid.specs.Domain.{domain}
use Rattle.buffer.proofs.PartLaws.{same_numbers}
use Rattle.sets.proofs.PartLaws.{part_named, part_in_domain}
use Rattle.sets.proofs.inner.containing.location.Goals as goal

pub named-requires : goal.named-requires
named-requires c = part_named c.args.points.now c.args.ranges.now c.args.k c.requires.0.taken c.requires.1

pub location-requires : goal.location-requires
location-requires c = (
  ap (λ (row : List ℤ). first_of (domain limit row)) (same_numbers c.named.ensures)
      ∙ part_in_domain c.args.points.now c.args.ranges.now c.args.k c.requires.0.taken c.requires.1,
  c.requires.0.on_grid,
)
