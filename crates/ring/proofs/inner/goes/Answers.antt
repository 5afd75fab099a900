-- `ring::inner::goes` meets its contract: the edges of a corner tell the same as its points.
use mathlib.Core.Path.{sym, ◌∙◌, ap₂}
use Rattle.grid.specs.Limits.{limit}
use Rattle.grid.specs.Points.{at}
use Rattle.grid.proofs.PointLaws.{at_on}
use Rattle.grid.proofs.EdgeLaws.{corner_short}
use Rattle.ring.specs.Rule.{by, goes_along}
use Rattle.ring.proofs.RuleLaws.{goes_edges}
use Rattle.ring.proofs.inner.goes.Goals as goal

pub goes_along-requires : goal.goes_along-requires
goes_along-requires c =
    let row = c.args.points.now in
    rw (c.edge_at-to.ensures, c.edge_at-from.ensures)
    (corner_short limit _ _ _ (at_on limit row c.args.before c.requires.on) (at_on limit row c.args.at c.requires.on) (at_on limit row c.args.after c.requires.on))

pub returns : goal.returns
returns c =
    let row = c.args.points.now in
    c.goes_along.ensures ∙ ap₂ (goes_along (by c.args.collinear)) c.edge_at-to.ensures c.edge_at-from.ensures
    ∙ sym (goes_edges (by c.args.collinear) (at row c.args.before) (at row c.args.at) (at row c.args.after))
