use Rattle.std.proofs.Common.{◌≡◌, ℕ, ◌<◌}
use Rattle.turned.specs.inside.Words.{keys}
use Rattle.turned.proofs.inner.level.Given as goal

abbrev pub invariant-loop-k : goal.invariant-loop-k
invariant-loop-k l = (x : ℕ) → x < l.k → keys l.first l.a x ≡ keys l.second l.b x
