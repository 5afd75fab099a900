-- `grid::point_on_grid` meets its contract: each coordinate is within the limit.
use Rattle.std.proofs.Common.{◌&&◌, ap, ◌∙◌, ap₂, to_z-of_z, w32, SFits, rules}
use Rattle.grid.specs.Limits.{limit, on_grid}
use Rattle.grid.proofs.point_on_grid.Goals as goal

pub on_grid-requires : goal.on_grid-requires
unfolding limit
on_grid-requires c = search rules

pub on_grid-requires-2 : goal.on_grid-requires-2
unfolding limit
on_grid-requires-2 c = search rules

pub returns : goal.returns
unfolding limit
returns c =
    let x_fits : SFits w32 c.args.p.x = search rules in
    let y_fits : SFits w32 c.args.p.y = search rules in
    ap₂ ◌&&◌ (c.on_grid.ensures ∙ ap (on_grid limit) (to_z-of_z x_fits)) (c.on_grid-2.ensures ∙ ap (on_grid limit) (to_z-of_z y_fits))
