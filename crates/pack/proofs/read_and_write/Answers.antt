-- `pack::read_and_write` meets its contract: what is written is within the file's row and the words.
use mathlib.Core.Path.{sym}
use lib.Seq.{length-take-le}
use Rattle.jobpack.proofs.PackLaws.{file_within, words_within}
use Rattle.pack.proofs.read_and_write.Goals as goal

pub slice_bounds-out-end : goal.slice_bounds-out-end
slice_bounds-out-end c = file_within _ _ _ c.pack-lengths.ensures

pub slice_bounds-write_all-end : goal.slice_bounds-write_all-end
slice_bounds-write_all-end c = sym (length-take-le _ _ (file_within _ _ _ c.pack-lengths.ensures))

pub slice_bounds-words-end : goal.slice_bounds-words-end
slice_bounds-words-end c = words_within _ _ _ c.pack-lengths.ensures

pub slice_bounds-write_all-end-2 : goal.slice_bounds-write_all-end-2
slice_bounds-write_all-end-2 c = sym (length-take-le _ _ (words_within _ _ _ c.pack-lengths.ensures))
