-- `changes::inner::counts::put` meets its contract: count after count.
use Rattle.report.proofs.PutLaws.{going_room, going_more, going_all}
use Rattle.changes.proofs.CountLaws.{counts_begun}
use Rattle.changes.proofs.inner.counts.put.Goals as goal

pub put_count-second-requires : goal.put_count-second-requires
put_count-second-requires c =
    let s = c.args in
    let due = counts_begun s.at s.listing.now s.text.now c.requires in
    going_room due

pub put_count-third-requires : goal.put_count-third-requires
put_count-third-requires c =
    let s = c.args in
    let due = counts_begun s.at s.listing.now s.text.now c.requires in
    going_room (going_more due c.put_count-second.ensures)

pub put_count-fourth-requires : goal.put_count-fourth-requires
put_count-fourth-requires c =
    let s = c.args in
    let due = counts_begun s.at s.listing.now s.text.now c.requires in
    going_room (going_more (going_more due c.put_count-second.ensures) c.put_count-third.ensures)

pub put_count-fifth-requires : goal.put_count-fifth-requires
put_count-fifth-requires c =
    let s = c.args in
    let due = counts_begun s.at s.listing.now s.text.now c.requires in
    going_room (going_more (going_more (going_more due c.put_count-second.ensures) c.put_count-third.ensures) c.put_count-fourth.ensures)

pub put_count-sixth-requires : goal.put_count-sixth-requires
put_count-sixth-requires c =
    let s = c.args in
    let due = counts_begun s.at s.listing.now s.text.now c.requires in
    going_room (going_more (going_more (going_more (going_more due c.put_count-second.ensures) c.put_count-third.ensures) c.put_count-fourth.ensures) c.put_count-fifth.ensures)

pub put-requires : goal.put-requires
put-requires c =
    let s = c.args in
    let due = counts_begun s.at s.listing.now s.text.now c.requires in
    going_room (going_more (going_more (going_more (going_more (going_more due c.put_count-second.ensures) c.put_count-third.ensures) c.put_count-fourth.ensures) c.put_count-fifth.ensures) c.put_count-sixth.ensures)

pub returns : goal.returns
returns c =
    let s = c.args in
    let due = counts_begun s.at s.listing.now s.text.now c.requires in
    going_all (going_more (going_more (going_more (going_more (going_more (going_more due c.put_count-second.ensures) c.put_count-third.ensures) c.put_count-fourth.ensures) c.put_count-fifth.ensures) c.put_count-sixth.ensures) c.put.ensures)
