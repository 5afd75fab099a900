use Rattle.grid.specs.Points.{points}
use Rattle.vertices.specs.Vertices.{vertices, dot_if}
use Rattle.vertices.specs.inside.Marks.{survive}
use Rattle.vertices.proofs.WritingLaws.{Writing}
use Rattle.vertices.proofs.inner.dots.put.Given as goal

abbrev pub invariant-loop-i : goal.invariant-loop-i
invariant-loop-i l = Writing (dot_if l.kept) (vertices (survive l.mark) (points l.points)) l.from l.initial.text l.behind l.text l.i
