-- `salvage_main::main` meets its contract: what is written is within the file's row and the text.
use mathlib.Core.Path.{sym}
use lib.Seq.{length-take-le}
use Rattle.account.proofs.AccountLaws.{bytes_within, text_within}
use Rattle.salvage_main.proofs.main.Goals as goal

pub slice_bounds-out-end : goal.slice_bounds-out-end
slice_bounds-out-end c = bytes_within _ _ _ c.mend-lengths.ensures

pub slice_bounds-write_all-end : goal.slice_bounds-write_all-end
slice_bounds-write_all-end c = sym (length-take-le _ _ (bytes_within _ _ _ c.mend-lengths.ensures))

pub slice_bounds-text-end : goal.slice_bounds-text-end
slice_bounds-text-end c = text_within _ _ _ c.mend-lengths.ensures

pub slice_bounds-write_all-end-2 : goal.slice_bounds-write_all-end-2
slice_bounds-write_all-end-2 c = sym (length-take-le _ _ (text_within _ _ _ c.mend-lengths.ensures))
