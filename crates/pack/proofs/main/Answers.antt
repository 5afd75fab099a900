-- `pack::main` meets its contract.
use mathlib.Core.Path.{sym}
use Prim.Native.Nat.{ℕ}
use lib.ListN.{length-replicate}
use Rattle.pack.proofs.main.Goals as goal

pub slice_bounds-read_and_write-end : goal.slice_bounds-read_and_write-end
slice_bounds-read_and_write-end c = sym (length-replicate {A = ℕ} 1597445 0)
