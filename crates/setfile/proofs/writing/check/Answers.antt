-- `setfile::writing::check` meets its contract, refusal by refusal.
use Rattle.std.proofs.Common.{rules}
use Rattle.grid.specs.Limits.{limit, narrow}
use Rattle.setfile.proofs.RefusedLaws.{refused_odd, refused_long, refused_rest}
use Rattle.setfile.proofs.writing.check.Goals as goal

pub returns-then-points-eq1 : goal.returns-then-points-eq1
returns-then-points-eq1 c =
    let s = c.args in
    refused_odd s.points.now s.contours.now s.shapes.now c.if-points-eq1.true

pub returns-then-file_length-gt-MOST_BYTES : goal.returns-then-file_length-gt-MOST_BYTES
returns-then-file_length-gt-MOST_BYTES c =
    let s = c.args in
    refused_long s.points.now s.contours.now s.shapes.now c.if-points-eq1.false _ c.file_length.ensures c.if-file_length-gt-MOST_BYTES.true

-- the narrow grid lies within the limit
pub check_set-requires : goal.check_set-requires
unfolding limit
check_set-requires c = search rules

pub returns : goal.returns
unfolding narrow
returns c =
    let s = c.args in
    refused_rest s.points.now s.contours.now s.shapes.now
    c.if-points-eq1.false _ c.file_length.ensures c.if-file_length-gt-MOST_BYTES.false _ c.check_set.ensures
