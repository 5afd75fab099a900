use mathlib.Core.Path.{◌≡◌}
use Prim.Native.Nat.{◌-◌, ◌≤◌}
use lib.ListN.{length}
use Rattle.week.proofs.WeekLaws.{Counted}
use Rattle.weekly.proofs.count_all.Given as goal

abbrev pub invariant-loop-n : goal.invariant-loop-n
invariant-loop-n g l = (length l.window ≡ 65537) × (l.n ≤ length l.window) × (l.week.files ≤ 4294967295) × Counted l.week.figures

abbrev pub decreases-loop-n : goal.decreases-loop-n
decreases-loop-n g l = 4294967295 - l.week.files
