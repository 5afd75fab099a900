-- `week::inner::saying::put` meets its contract: the table, the count, and why no more were counted.
use native.Mathlib.Omega.{arith}
use Rattle.report.proofs.PutLaws.{Going, going_none, going_room, going_more, going_all}
use Rattle.week.specs.Table.{said}
use Rattle.week.proofs.TableLaws.{said_words, said_joined, said-length}
use Rattle.week.proofs.inner.saying.put.Goals as goal
use Rattle.week.proofs.inner.saying.put.Goals.{Start}

-- all of it is to be put
begun : (c : Start) → let s = c.args in
    Going 0 (said s.week) s.text.now 0 s.text.now (said_words s.week)
begun c = let s = c.args in going_none 0 s.text.now (said_words s.week) (said_joined s.week) (omega (arith, said-length s.week, c.requires.in_bounds))

pub put-second-requires : goal.put-second-requires
put-second-requires c =
    let room = going_room (begun (goal.at.put-second-requires c).Start) in
    record { f_value = c.requires.figures_value; f_in_bounds = omega (arith, room) }

pub put_line-third-requires : goal.put_line-third-requires
put_line-third-requires c =
    rw c.from.ensures (going_room (going_more (begun (goal.at.put_line-third-requires c).Start) c.put-second.ensures))

pub put_if-fourth-requires : goal.put_if-fourth-requires
put_if-fourth-requires c =
    going_room (going_more (going_more (begun (goal.at.put_if-fourth-requires c).Start) c.put-second.ensures) (rw c.from.ensures at c.put_line-third.ensures))

pub put_if-requires : goal.put_if-requires
put_if-requires c =
    going_room (going_more (going_more (going_more (begun (goal.at.put_if-requires c).Start) c.put-second.ensures) (rw c.from.ensures at c.put_line-third.ensures)) c.put_if-fourth.ensures)

pub returns : goal.returns
returns c =
    going_all (going_more (going_more (going_more (going_more (begun (goal.at.returns c).Start) c.put-second.ensures) (rw c.from.ensures at c.put_line-third.ensures)) c.put_if-fourth.ensures) c.put_if.ensures)
