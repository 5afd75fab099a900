-- `clean::inner::settling::write` meets its contract: the survivors passed are in front of the output, and those of them that are marked are counted.
use Rattle.std.proofs.Common.{arith}
use Rattle.ring.proofs.Counting.{found_none, found_other, found_all, found_mark}
use Rattle.clean.proofs.RowLaws.{writing_none, writing_more, writing_past, writing_all}
use Rattle.clean.proofs.inner.settling.write.Goals as goal
use Rattle.clean.proofs.inner.settling.write.Goals.{then-own-lt2, else-own-lt2}

pub loop-i-init : goal.loop-i-init
loop-i-init c = (writing_none _ _ _, found_none _ _)

pub loop-i-preserved : goal.loop-i-preserved
loop-i-preserved c =
    let x = c.loop-i.invariant in
    let h = c.loop-i-test.true in
    let room = c.requires in
    elim c.if-own-lt2.branch [
      | then-own-lt2 w ↦ rw (w.out-is, w.kept-is, w.marked-is, w.from-marked.ensures)
          (writing_more x.0 h (omega arith) w.if-own-lt2.true _ w.put.ensures, found_mark _ x.1 h w.if-own-lt2.true)
      | else-own-lt2 w ↦ rw (w.out-is, w.kept-is, w.marked-is)
          (writing_past x.0 h w.if-own-lt2.false, found_other _ _ x.1 h (λ e. omega (arith, w.if-own-lt2.false)))
    ]

pub returns : goal.returns
returns c =
    let x = c.loop-i.invariant in
    let w = writing_all x.0 c.loop-i-test.false in
    record { points_are = w.0; marked_are = found_all _ _ x.1 c.loop-i-test.false; output = w.1 }
