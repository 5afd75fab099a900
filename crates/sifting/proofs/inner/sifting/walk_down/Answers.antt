-- `sifting::inner::sifting::walk_down` meets its contract.
use borrow.Author.Tests.{not-true, not-false}
use Rattle.sifting.proofs.SiftingLaws.{sifted_fallen, sifted_kept}
use Rattle.sifting.proofs.inner.sifting.walk_down.Goals as goal

pub returns-then-not-walked : goal.returns-then-not-walked
returns-then-not-walked c =
    let a = c.args in
    sifted_fallen a.rule a.row.now a.start a.end a.to c.requires.in_place.0 c.requires.to_le_start.1 c.walk-walked.result _ _ _ c.requires.in_place.1.mark_long c.walk-walked.ensures (not-true _ c.if-not-walked.true) _ c.gone.ensures

pub returns : goal.returns
returns c =
    let a = c.args in
    sifted_kept a.rule a.row.now a.start a.end a.to c.requires.in_place.0 c.requires.to_le_start.1 c.walk-walked.result _ _ _ c.requires.in_place.1.mark_long c.walk-walked.ensures (not-false _ c.if-not-walked.false) c.walk-walked.auto.mark _ _ c.survivors-points.ensures
