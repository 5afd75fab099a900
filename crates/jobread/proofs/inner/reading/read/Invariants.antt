use mathlib.Core.Path.{◌≡◌}
use lib.ListN.{drop}
use Rattle.jobread.specs.Reading.{run, nothing}
use Rattle.jobread.specs.inside.Rows.{state_of, Rooms}
use Rattle.jobread.proofs.inner.reading.read.Given as goal

abbrev pub invariant-loop-c : goal.invariant-loop-c
invariant-loop-c l =
    (run (state_of l.reader l.points l.contours l.shapes) (drop l.c-index l.text) ≡ run nothing l.text) × Rooms l.points l.contours l.shapes
