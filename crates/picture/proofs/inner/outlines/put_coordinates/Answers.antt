-- `picture::inner::outlines::put_coordinates` meets its contract: those ahead are left.
use lib.IntN.{pos}
use Rattle.grid.specs.Limits.{limit}
use Rattle.grid.proofs.LimitLaws.{on_grid_back, all_on_grid_at}
use native.Mathlib.Omega.{arith}
use Rattle.picture.specs.Picture.{coordinate}
use Rattle.vertices.proofs.WritingLaws.{writing_none, writing_room, writing_more, writing_all}
use Rattle.picture.proofs.inner.outlines.put_coordinates.Goals as goal

pub loop-z-init : goal.loop-z-init
loop-z-init c = writing_none coordinate _ _ _ c.requires.contour_in_bounds

pub put_coordinate-behind-requires : goal.put_coordinate-behind-requires
put_coordinate-behind-requires c =
    rw (on_grid_back _ (all_on_grid_at limit c.args.contour.now c.loop-z.z-index c.requires.contour_value))
    (writing_room coordinate c.loop-z.invariant (pos 0) c.loop-z-test.true)

pub loop-z-preserved : goal.loop-z-preserved
loop-z-preserved c =
    writing_more coordinate c.loop-z.invariant (pos 0) c.loop-z-test.true
    (rw (on_grid_back _ (all_on_grid_at limit c.args.contour.now c.loop-z.z-index c.requires.contour_value)) at c.put_coordinate-behind.ensures)

pub returns : goal.returns
returns c = writing_all coordinate c.loop-z.invariant (omega arith)
