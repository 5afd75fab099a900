use Prim.Native.Nat.{◌/◌}
use lib.ListN.{length}
use Rattle.picture.proofs.ExtentLaws.{Widening}
use Rattle.picture.proofs.inner.frame.extent_of.Given as goal

abbrev pub invariant-loop-i : goal.invariant-loop-i
invariant-loop-i l = Widening l.points (length l.points / 2) l.e l.i
