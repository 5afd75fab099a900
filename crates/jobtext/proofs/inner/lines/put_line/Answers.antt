-- `jobtext::inner::lines::put_line` meets its contract: a word, numbers and the end of the line.
use Rattle.report.specs.Text.{line_end}
use Rattle.report.proofs.PutLaws.{going_three, going_room, going_more, going_all}
use Rattle.jobtext.specs.Text.{word, numbers}
use Rattle.jobtext.proofs.inner.lines.put_line.Goals as goal

pub put_word-second-requires : goal.put_word-second-requires
put_word-second-requires c =
    let s = c.args in
    let due = going_three s.at s.text.now (word s.begins) (numbers s.contour.now) line_end c.requires in
    going_room due

pub put_numbers-third-requires : goal.put_numbers-third-requires
put_numbers-third-requires c =
    let s = c.args in
    let due = going_three s.at s.text.now (word s.begins) (numbers s.contour.now) line_end c.requires in
    going_room (going_more due c.put_word-second.ensures)

pub put-requires : goal.put-requires
put-requires c =
    let s = c.args in
    let due = going_three s.at s.text.now (word s.begins) (numbers s.contour.now) line_end c.requires in
    going_room (going_more (going_more due c.put_word-second.ensures) c.put_numbers-third.ensures)

pub returns : goal.returns
returns c =
    let s = c.args in
    let due = going_three s.at s.text.now (word s.begins) (numbers s.contour.now) line_end c.requires in
    going_all (going_more (going_more (going_more due c.put_word-second.ensures) c.put_numbers-third.ensures) c.put.ensures)
