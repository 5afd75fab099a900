-- `picture::inner::frame::widened` meets its contract: each coordinate of both corners.
use borrow.Author.Rules.{sfits_of}
use mir.Facts.{to_z-of_z}
use Rattle.grid.specs.Limits.{limit}
use Rattle.grid.proofs.LimitLaws.{on_grid_back}
use Rattle.grid.proofs.PointLaws.{x_on, y_on}
use Rattle.picture.proofs.ExtentLaws.{lesser_is, greater_is}
use Rattle.picture.proofs.inner.frame.widened.Goals as goal

pub returns : goal.returns
returns c =
    let k = c.requires in
    let e = c.args.e in
    let p = c.args.p in
    let x = on_grid_back _ (x_on limit _ k.1) in
    let y = on_grid_back _ (y_on limit _ k.1) in
    rw (to_z-of_z (sfits_of c.min.type_inv), to_z-of_z (sfits_of c.min-2.type_inv), to_z-of_z (sfits_of c.max.type_inv), to_z-of_z (sfits_of c.max-2.type_inv))
    (rw (
      lesser_is p.x e.low.x x (on_grid_back _ (x_on limit _ k.0.0)) _ c.min.ensures.value,
      lesser_is p.y e.low.y y (on_grid_back _ (y_on limit _ k.0.0)) _ c.min-2.ensures.value,
      greater_is p.x e.high.x x (on_grid_back _ (x_on limit _ k.0.1)) _ c.max.ensures.value,
      greater_is p.y e.high.y y (on_grid_back _ (y_on limit _ k.0.1)) _ c.max-2.ensures.value,
    ))
