use mathlib.Core.Path.{◌≡◌}
use lib.ListN.{length}
use Rattle.report.proofs.LinesLaws.{Lining}
use Rattle.report.proofs.inner.lines.put.Given as goal

abbrev pub invariant-loop-i : goal.invariant-loop-i
invariant-loop-i l =
    Lining l.second l.bytes l.n l.from l.initial.text l.behind l.text l.i l.at
    × (length l.points ≡ length l.initial.points) × (length l.next ≡ length l.initial.next) × (length l.prev ≡ length l.initial.prev) × (length l.mark ≡ length l.initial.mark)
