-- `sifting::inner::sifting::survivors` meets its contract.
use Rattle.sifting.proofs.SiftingLaws.{sinking_none, sinking_more, sinking_past, sinking_all}
use Rattle.sifting.proofs.inner.sifting.survivors.Goals as goal
use Rattle.sifting.proofs.inner.sifting.survivors.Goals.{then-m-lt2, else-m-lt2}

pub loop-i-init : goal.loop-i-init
loop-i-init c = sinking_none _ _ _ _

pub loop-i-preserved : goal.loop-i-preserved
loop-i-preserved c =
    let a = c.args in
    elim c.if-m-lt2.branch [
      | then-m-lt2 w ↦ rw (w.row-is, w.kept-is) (sinking_more a.row.now a.start a.to a.mark.now c.requires.0 c.requires.1 c.loop-i.invariant c.loop-i-test.true w.if-m-lt2.true _ w.put.ensures)
      | else-m-lt2 w ↦ rw (w.row-is, w.kept-is) (sinking_past a.row.now a.start a.to a.mark.now c.requires.0 c.requires.1 c.loop-i.invariant c.loop-i-test.true w.if-m-lt2.false)
    ]

pub returns : goal.returns
returns c = sinking_all c.args.row.now c.args.start c.args.to c.args.mark.now c.requires.0 c.requires.1 c.loop-i.invariant c.loop-i-test.false
