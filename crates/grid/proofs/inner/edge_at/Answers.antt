-- `grid::inner::edge_at` meets its contract: both points are on the grid.
use Rattle.grid.specs.Limits.{limit}
use Rattle.grid.proofs.PointLaws.{at_on}
use Rattle.grid.proofs.inner.edge_at.Goals as goal

pub between-requires : goal.between-requires
between-requires c =
    (rw c.point_at.ensures (at_on limit c.args.points.now c.args.a c.requires.0), rw c.point_at-2.ensures (at_on limit c.args.points.now c.args.b c.requires.0))
