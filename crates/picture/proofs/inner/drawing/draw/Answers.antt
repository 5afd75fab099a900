-- `picture::inner::drawing::draw` meets its contract: how the file was judged says which picture it has.
use mathlib.Core.Path.{sym}
use native.Mathlib.Omega.{arith}
use Rattle.replies.proofs.RefusalLaws.{refusals_have_numbers}
use Rattle.report.proofs.PutLaws.{put_front}
use Rattle.picture.proofs.PictureLaws.{picture_refused, picture_drawn}
use Rattle.picture.proofs.inner.drawing.draw.Goals as goal

pub put_job-requires-clause-bytes_in_bounds : goal.put_job-requires-clause-bytes_in_bounds
put_job-requires-clause-bytes_in_bounds c = rw (picture_drawn _ (sym c.in-Ok.ensures.refusal)) at c.requires

pub put_line-requires : goal.put_line-requires
put_line-requires c =
    rw (c.from.ensures, c.number.ensures)
    (omega (arith, rw (picture_refused _ _ c.in-Err.ensures.refusal (refusals_have_numbers _)) at c.requires))

pub returns-in-Ok : goal.returns-in-Ok
returns-in-Ok c = rw (picture_drawn _ (sym c.in-Ok.ensures.refusal)) (put_front c.put_job.ensures)

pub returns-in-Err : goal.returns-in-Err
returns-in-Err c =
    rw (picture_refused _ _ c.in-Err.ensures.refusal (refusals_have_numbers _)) (put_front (rw (c.from.ensures, c.number.ensures) at c.put_line.ensures))
