-- `setfile::writing_2::write_2` meets its contract: refused, too long, or the file in front of the row where it has room.
use Rattle.std.proofs.lemmas.Result.{err_from_is_err_and}
use Rattle.replies.proofs.RefusalLaws.{refusals_have_numbers}
use Rattle.std.proofs.Common.{rules, sym, ◌∙◌, arith}
use Rattle.grid.specs.Limits.{limit}
use Rattle.setfile.proofs.CarryLaws.{all_named}
use Rattle.setfile.proofs.Outcome2Laws.{regular-set, ripe, write_refused, write_long, write_free}
use Rattle.setfile.proofs.writing_2.write_2.Goals as goal

pub check_set-requires : goal.check_set-requires
unfolding limit
check_set-requires c = search rules

pub returns-in_err-check_set : goal.returns-in_err-check_set
unfolding limit
returns-in_err-check_set c =
    let s = c.args in
    let p = err_from_is_err_and c.from_residual.result c.from_residual.ensures.1 in
    rw (p.1, p.2) (write_refused s.points.now s.contours.now s.shapes.now s.bytes.now _ c.in_err-check_set.ensures (refusals_have_numbers _))

pub file_length-length-requires : goal.file_length-length-requires
unfolding limit
file_length-length-requires c =
    let s = c.args in
    let free = sym c.in_ok-check_set.ensures in
    let r = regular-set s.points.now s.contours.now s.shapes.now free in
    (all_named limit s.points.now s.contours.now s.shapes.now r (omega arith), r.few, r.few)

pub returns-then-length-gt-MOST_BYTES : goal.returns-then-length-gt-MOST_BYTES
unfolding limit
returns-then-length-gt-MOST_BYTES c =
    let s = c.args in
    let free = sym c.in_ok-check_set.ensures in
    (write_long s.points.now s.contours.now s.shapes.now s.bytes.now free _ c.file_length-length.ensures.0 c.if-length-gt-MOST_BYTES.true)

pub put_in_room-requires : goal.put_in_room-requires
unfolding limit
put_in_room-requires c =
    let s = c.args in
    let free = sym c.in_ok-check_set.ensures in
    (λ h. ripe s.points.now s.contours.now s.shapes.now s.bytes.now free _ c.file_length-length.ensures.0 c.if-length-gt-MOST_BYTES.false h, c.file_length-length.ensures.1)

pub returns : goal.returns
unfolding limit
returns c =
    let s = c.args in
    let free = sym c.in_ok-check_set.ensures in
    c.put_in_room.ensures ∙ write_free s.points.now s.contours.now s.shapes.now s.bytes.now free _ c.file_length-length.ensures.0 c.if-length-gt-MOST_BYTES.false
