-- `setfile::writing::write` meets its contract: refused, or the file in front of the row where it has room.
use Rattle.std.proofs.lemmas.Result.{err_from_is_err_and}
use Rattle.replies.proofs.RefusalLaws.{refusals_have_numbers}
use Rattle.std.proofs.Common.{sym, ◌∙◌}
use Rattle.setfile.proofs.OutcomeLaws.{ripe, write_refused, write_free}
use Rattle.setfile.proofs.writing.write.Goals as goal

pub returns-in_err-check : goal.returns-in_err-check
returns-in_err-check c =
    let s = c.args in
    let p = err_from_is_err_and c.from_residual.result c.from_residual.ensures.1 in
    rw (p.1, p.2) (write_refused s.points.now s.contours.now s.shapes.now s.bytes.now _ c.in_err-check.ensures (refusals_have_numbers _))

pub put_in_room-requires : goal.put_in_room-requires
put_in_room-requires c =
    let s = c.args in
    let free = sym c.in_ok-check.ensures in
    (λ h. ripe s.points.now s.contours.now s.shapes.now s.bytes.now free _ c.file_length-length.ensures h, tt)

pub returns : goal.returns
returns c =
    let s = c.args in
    let free = sym c.in_ok-check.ensures in
    c.put_in_room.ensures ∙ write_free s.points.now s.contours.now s.shapes.now s.bytes.now free _ c.file_length-length.ensures
