-- `setfile::inner::putting::put_contour` meets its contract, in either edition.
use Rattle.setfile.specs.Entries.{entry}
use Rattle.setfile.proofs.PutLaws.{contour_room, contour_inked}
use Rattle.setfile.proofs.inner.putting.put_contour.Goals as goal

pub put_contour_1-requires : goal.put_contour_1-requires
put_contour_1-requires c =
    (c.requires.0.short, contour_room (entry c.args.begins c.args.contour.now) c.args.pen c.args.bytes.now (rw c.in-None.is at c.requires.2))

pub returns-in-None : goal.returns-in-None
returns-in-None c =
    rw c.in-None.is (contour_inked (entry c.args.begins c.args.contour.now) c.args.pen c.args.bytes.now (rw c.in-None.is at c.requires.2) c.put_contour_1.ensures)
