use Rattle.std.proofs.Common.{drop}
use Rattle.setfile.specs.inside.Bytes.{coded_coordinates}
use Rattle.setfile.proofs.WriteLaws.{Writing}
use Rattle.setfile.proofs.inner.putting.put_coordinates.Given as goal

abbrev pub invariant-loop-x : goal.invariant-loop-x
invariant-loop-x l =
    Writing l.at (coded_coordinates l.contour) l.initial.bytes l.behind (coded_coordinates (drop l.x-index l.contour)) l.bytes
