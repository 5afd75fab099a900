use Rattle.rows.specs.Rows.{front}
use Rattle.buffer.specs.Sets.{joined}
use Rattle.setfile.specs.Entries.{contours_of}
use Rattle.setfile.specs.inside.Reading.{contained}
use Rattle.setfile.proofs.FillLaws.{Filling, points_made}
use Rattle.setfile.proofs.inner.filling.points.Given as goal

abbrev pub invariant-loop : goal.invariant-loop
invariant-loop l =
    Filling l.second l.bytes l.n l.initial.out (front (joined (contours_of (contained l.bytes))) l.initial.out) points_made l.counter l.at l.to l.out
