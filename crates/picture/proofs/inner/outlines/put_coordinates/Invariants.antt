use Rattle.picture.specs.Picture.{coordinate}
use Rattle.vertices.proofs.WritingLaws.{Writing}
use Rattle.picture.proofs.inner.outlines.put_coordinates.Given as goal

abbrev pub invariant-loop-z : goal.invariant-loop-z
invariant-loop-z l = Writing coordinate l.contour l.from l.initial.text l.behind l.text l.z-index
