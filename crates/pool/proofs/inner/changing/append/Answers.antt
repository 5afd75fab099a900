-- `pool::inner::changing::append` meets its contract.
use mathlib.Core.Path.{refl}
use Rattle.pool.specs.Lists.{entry}
use Rattle.pool.proofs.LayoutLaws.{appended}
use Rattle.pool.proofs.inner.changing.append.Goals as goal

pub returns : goal.returns
returns c =
    let s = c.args in
    let pre = c.requires in
    appended _ s.points.now s.records.now s.n pre.holds.lies (entry s.press s.tool s.contour.now) s.at _ _ pre.holds.counts pre.contour_in_bounds.1
    c.copy.ensures refl
