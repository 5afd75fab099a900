use mathlib.Core.Path.{◌≡◌}
use lib.ListN.{length}
use Rattle.jobtext.proofs.LineLaws.{Lining}
use Rattle.jobtext.proofs.inner.lines.put.Given as goal

abbrev pub invariant-loop : goal.invariant-loop
invariant-loop l =
    Lining l.second l.bytes l.n l.from l.initial.text l.behind l.text l.counter l.at × (length l.points ≡ length l.initial.points)
