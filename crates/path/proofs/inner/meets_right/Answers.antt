-- `path::inner::meets_right` meets its contract: the two products are those of the cross.
use mathlib.Core.Path.{◌∙◌, ap₂}
use Rattle.grid.specs.Limits.{limit}
use Rattle.grid.specs.Edges.{turns_left}
use Rattle.grid.proofs.EdgeLaws.{corner_short}
use Rattle.path.proofs.ContainsLaws.{meets_is}
use Rattle.path.proofs.inner.meets_right.Goals as goal

pub turns_left-requires : goal.turns_left-requires
turns_left-requires c =
    rw (c.between.ensures, c.between-2.ensures) (corner_short limit c.args.l c.args.h c.args.p c.requires.1 c.requires.2 c.requires.0)

pub returns : goal.returns
returns c =
    c.turns_left.ensures ∙ ap₂ turns_left c.between.ensures c.between-2.ensures ∙ meets_is c.args.p c.args.l c.args.h
