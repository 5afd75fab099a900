-- `account::inner::lines::put_counts` meets its contract: one line, and another behind it.
use mathlib.Core.List.{◌++◌}
use Rattle.report.specs.Text.{decimal, line_end}
use Rattle.report.proofs.PutLaws.{going_two, going_room, going_more, going_all}
use Rattle.account.specs.Words.{never_came, past_the_count}
use Rattle.account.proofs.inner.lines.put_counts.Goals as goal

pub put_line-behind-requires : goal.put_line-behind-requires
put_line-behind-requires c =
    let s = c.args in
    let due = going_two s.at s.text.now (never_came ++ decimal s.missing ++ line_end) (past_the_count ++ decimal s.past ++ line_end) c.requires in
    going_room due

pub put_line-requires : goal.put_line-requires
put_line-requires c =
    let s = c.args in
    let due = going_two s.at s.text.now (never_came ++ decimal s.missing ++ line_end) (past_the_count ++ decimal s.past ++ line_end) c.requires in
    going_room (going_more due c.put_line-behind.ensures)

pub returns : goal.returns
returns c =
    let s = c.args in
    let due = going_two s.at s.text.now (never_came ++ decimal s.missing ++ line_end) (past_the_count ++ decimal s.past ++ line_end) c.requires in
    going_all (going_more (going_more due c.put_line-behind.ensures) c.put_line.ensures)
