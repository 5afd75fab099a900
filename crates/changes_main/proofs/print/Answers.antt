-- `changes_main::print` meets its contract: what is written is within the text.
use mathlib.Core.Path.{sym}
use lib.Seq.{length-take-le}
use Rattle.report.proofs.PutLaws.{front_within}
use Rattle.changes.specs.Words.{changes}
use Rattle.changes_main.proofs.print.Goals as goal

pub slice_bounds-text-end : goal.slice_bounds-text-end
slice_bounds-text-end c = let e = c.tell-length.ensures in front_within (changes _ _) _ _ _ e.0 e.1

pub slice_bounds-write_all-end : goal.slice_bounds-write_all-end
slice_bounds-write_all-end c = let e = c.tell-length.ensures in sym (length-take-le _ _ (front_within (changes _ _) _ _ _ e.0 e.1))
