use Rattle.std.proofs.Common.{◌≡◌, ◌-◌, true, eqb}
use Rattle.setfile.specs.Layouts.{contours_in}
use Rattle.setfile.specs.Editions.{layout}
use Rattle.setfile.specs.inside.Reading.{from_bit, none_met, Within, summed}
use Rattle.setfile.proofs.inner.judging.contours.Given as goal

abbrev pub invariant-loop-i : goal.invariant-loop-i
invariant-loop-i l =
    Within l.second l.bytes l.m
    × (summed l.second none_met 0 (contours_in (layout l.second) l.n true 0 (from_bit l.bytes 16))
    ≡ summed l.second l.m l.i (contours_in (layout l.second) (l.n - l.i) (eqb l.i 0) l.m.points (from_bit l.bytes l.m.at)))
