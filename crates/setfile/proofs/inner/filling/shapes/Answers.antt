-- `setfile::inner::filling::shapes` meets its contract: where there are no contours nothing is written.
use Rattle.std.proofs.Common.{◌≡◌, subst, arith}
use Rattle.setfile.specs.inside.Reading.{Readable}
use Rattle.setfile.proofs.ShapeFillLaws.{no_shapes}
use Rattle.setfile.proofs.inner.filling.shapes.Goals as goal

pub returns-else-n-gt0 : goal.returns-else-n-gt0
returns-else-n-gt0 c =
    let s = c.args in
    let none : s.n ≡ 0 = omega arith in
    no_shapes s.groups.now (subst (Readable s.second s.bytes.now) none c.requires.0)
