-- `sifting::inner::cleaning::next_contour` meets its contract.
use Rattle.sifting.proofs.GoingLaws.{notable}
use Rattle.sifting.proofs.inner.cleaning.next_contour.Goals as goal

pub note-requires : goal.note-requires
note-requires c =
    let a = c.args in
    notable a.rule a.points.now a.records.now a.i a.at a.next.now a.prev.now a.mark.now c.requires _ c.sift-kept.ensures.is
