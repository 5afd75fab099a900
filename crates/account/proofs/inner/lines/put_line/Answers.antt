-- `account::inner::lines::put_line` meets its contract: word after word.
use Rattle.report.proofs.PutLaws.{going_room, going_more, going_all}
use Rattle.account.proofs.LineLaws.{line_begun}
use Rattle.account.proofs.inner.lines.put_line.Goals as goal

pub put-second-requires : goal.put-second-requires
put-second-requires c =
    let s = c.args in
    let due = line_begun s.at s.k s.reason s.text.now c.requires in
    going_room due

pub put_number-third-requires : goal.put_number-third-requires
put_number-third-requires c =
    let s = c.args in
    let due = line_begun s.at s.k s.reason s.text.now c.requires in
    going_room (going_more due c.put-second.ensures)

pub put-fourth-requires : goal.put-fourth-requires
put-fourth-requires c =
    let s = c.args in
    let due = line_begun s.at s.k s.reason s.text.now c.requires in
    going_room (going_more (going_more due c.put-second.ensures) c.put_number-third.ensures)

pub put_reason-fifth-requires : goal.put_reason-fifth-requires
put_reason-fifth-requires c =
    let s = c.args in
    let due = line_begun s.at s.k s.reason s.text.now c.requires in
    going_room (going_more (going_more (going_more due c.put-second.ensures) c.put_number-third.ensures) c.put-fourth.ensures)

pub put-requires : goal.put-requires
put-requires c =
    let s = c.args in
    let due = line_begun s.at s.k s.reason s.text.now c.requires in
    going_room (going_more (going_more (going_more (going_more due c.put-second.ensures) c.put_number-third.ensures) c.put-fourth.ensures) c.put_reason-fifth.ensures)

pub returns : goal.returns
returns c =
    let s = c.args in
    let due = line_begun s.at s.k s.reason s.text.now c.requires in
    going_all (going_more (going_more (going_more (going_more (going_more due c.put-second.ensures) c.put_number-third.ensures) c.put-fourth.ensures) c.put_reason-fifth.ensures) c.put.ensures)
