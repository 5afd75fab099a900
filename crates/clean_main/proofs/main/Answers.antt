-- `clean_main::main` meets its contract: what is written is within the file's row and the text.
use mathlib.Core.Path.{sym}
use Prim.Native.Nat.{ℕ}
use native.Mathlib.Omega.{arith}
use lib.ListN.{length-replicate}
use lib.Seq.{length-take-le}
use Rattle.tidy.proofs.TidyLaws.{file_within, words_within}
use Rattle.clean_main.proofs.main.Goals as goal

pub tidy-lengths-requires : goal.tidy-lengths-requires
tidy-lengths-requires c = (omega (arith, length-replicate {A = ℕ} 65536 0), omega (arith, length-replicate {A = ℕ} 343980 0))

pub slice_bounds-out-end : goal.slice_bounds-out-end
slice_bounds-out-end c = file_within _ _ _ _ c.tidy-lengths.ensures

pub slice_bounds-write_all-end : goal.slice_bounds-write_all-end
slice_bounds-write_all-end c = sym (length-take-le _ _ (file_within _ _ _ _ c.tidy-lengths.ensures))

pub slice_bounds-text-end : goal.slice_bounds-text-end
slice_bounds-text-end c = words_within _ _ _ _ c.tidy-lengths.ensures

pub slice_bounds-write_all-end-2 : goal.slice_bounds-write_all-end-2
slice_bounds-write_all-end-2 c = sym (length-take-le _ _ (words_within _ _ _ _ c.tidy-lengths.ensures))
