-- `draw::print` meets its contract: what is written is within the text.
use mathlib.Core.Path.{sym}
use lib.Seq.{length-take-le}
use Rattle.picture.specs.Picture.{picture}
use Rattle.report.proofs.PutLaws.{front_within}
use Rattle.draw.proofs.print.Goals as goal

pub slice_bounds-write_all-end-2 : goal.slice_bounds-write_all-end-2
slice_bounds-write_all-end-2 c = let e = c.draw-length.ensures in sym (length-take-le _ _ (front_within (picture _) _ _ _ e.0 e.1))
