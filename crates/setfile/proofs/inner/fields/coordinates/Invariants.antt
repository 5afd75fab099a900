use Rattle.std.proofs.Common.{◌+◌, map, drop}
use Rattle.rows.specs.Rows.{placed}
use Rattle.setfile.specs.inside.Bytes.{coordinate}
use Rattle.setfile.proofs.AheadLaws.{Ahead}
use Rattle.setfile.proofs.inner.fields.coordinates.Given as goal

abbrev pub invariant-loop-i : goal.invariant-loop-i
invariant-loop-i l =
    Ahead l.initial.out (placed l.to (map coordinate l.words) l.initial.out) (l.to + l.i) (map coordinate (drop l.i l.words)) l.out
