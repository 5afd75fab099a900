use Prim.Native.Nat.{◌<◌}
use Rattle.steps.proofs.WriteLaws.{Writing}
use Rattle.steps.proofs.inner.writing.put_steps.Given as goal

abbrev pub invariant-loop-k : goal.invariant-loop-k
invariant-loop-k l = Writing l.initial.p l.initial.bytes l.contour l.width l.k l.p l.bytes × (l.p.width < 32)
