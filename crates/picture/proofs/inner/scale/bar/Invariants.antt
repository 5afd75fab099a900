use mathlib.Core.Path.{◌≡◌}
use Prim.Native.Nat.{◌-◌, ◌≤◌}
use Rattle.picture.specs.Frame.{bar_from, bar}
use Rattle.picture.proofs.inner.scale.bar.Given as goal

abbrev pub invariant-loop-k : goal.invariant-loop-k
invariant-loop-k l = (bar_from (9 - l.k) l.long l.width ≡ bar l.width) × (l.long ≤ 4194304000)
