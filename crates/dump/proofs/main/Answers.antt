-- `dump::main` meets its contract: what is written is within the text.
use mathlib.Core.Path.{sym}
use Prim.Native.Nat.{ℕ, ◌≤◌}
use native.Mathlib.Omega.{arith}
use lib.ListN.{length, replicate, length-replicate}
use lib.Seq.{length-take-le}
use Rattle.jobtext.specs.Text.{dumped}
use Rattle.report.proofs.PutLaws.{front_within}
use Rattle.dump.proofs.main.Goals as goal

-- a row of n entries has room for as many, which is not counted
roomy : (n : ℕ) → n ≤ length (replicate {A = ℕ} n 0)
roomy n = omega (arith, length-replicate {A = ℕ} n 0)

pub slice_bounds-dump-end-2 : goal.slice_bounds-dump-end-2
slice_bounds-dump-end-2 c = sym (length-replicate {A = ℕ} 1597444 0)

pub dump-length-requires : goal.dump-length-requires
dump-length-requires c = roomy 1597444

pub slice_bounds-text-end : goal.slice_bounds-text-end
slice_bounds-text-end c = let e = c.dump-length.ensures in front_within (dumped _) _ _ _ e.0 e.1

pub slice_bounds-write_all-end : goal.slice_bounds-write_all-end
slice_bounds-write_all-end c = let e = c.dump-length.ensures in sym (length-take-le _ _ (front_within (dumped _) _ _ _ e.0 e.1))
