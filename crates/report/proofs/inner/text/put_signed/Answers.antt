-- `report::inner::text::put_signed` meets its contract: a dash where it is called for, and the size of the number.
use Rattle.report.specs.Text.{decimal}
use Rattle.report.proofs.TextLaws.{signed_below, signed_above}
use Rattle.report.proofs.PutLaws.{both_put}
use Rattle.report.proofs.inner.text.put_signed.Goals as goal
use Rattle.report.proofs.inner.text.put_signed.Goals.{then-z-lt0, else-z-lt0}

pub returns : goal.returns
returns c =
    let s = c.args in
    elim c.if-z-lt0.branch [
      | then-z-lt0 w ↦
          let e = signed_below s.z c.ranges.z _ c.unsigned_abs.ensures.value w.if-z-lt0.true in
          rw e (both_put w.put-behind.ensures (decimal c.unsigned_abs.result) (rw e at c.requires) (rw (w.behind-is, w.text-is) at c.put_number.ensures))
      | else-z-lt0 w ↦
          rw (signed_above s.z c.ranges.z _ c.unsigned_abs.ensures.value w.if-z-lt0.false) (rw (w.behind-is, w.text-is) at c.put_number.ensures)
    ]
