-- `path::inner::turn_on` meets its contract.
use Rattle.grid.specs.Limits.{limit}
use Rattle.grid.proofs.EdgeLaws.{corner_short}
use Rattle.path.proofs.inner.turn_on.Goals as goal

pub turn-requires : goal.turn-requires
turn-requires c =
    rw (c.between.ensures, c.between-2.ensures) (corner_short limit c.args.l c.args.h c.args.p c.requires.1 c.requires.2 c.requires.0)
