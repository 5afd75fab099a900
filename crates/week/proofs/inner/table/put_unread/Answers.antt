-- `week::inner::table::put_unread` meets its contract: line by line.
use mathlib.Core.Path.{refl}
use Rattle.buffer.specs.Sets.{joined}
use Rattle.report.proofs.PutLaws.{Going, going_none, going_room, going_more, going_all}
use Rattle.week.specs.Table.{unread_lines}
use Rattle.week.proofs.inner.table.put_unread.Goals as goal
use Rattle.week.proofs.inner.table.put_unread.Goals.{Start}

-- all of it is to be put
begun : (c : Start) → let s = c.args in
    Going s.at (joined (unread_lines s.totals.now)) s.text.now s.at s.text.now (unread_lines s.totals.now)
begun c = let s = c.args in going_none s.at s.text.now (unread_lines s.totals.now) refl c.requires.totals_in_bounds

pub put_told-second-requires : goal.put_told-second-requires
put_told-second-requires c =
    record { in_bounds = c.requires.in_bounds; text_in_bounds = going_room (begun (goal.at.put_told-second-requires c).Start) }

pub put_told-third-requires : goal.put_told-third-requires
put_told-third-requires c =
    record { in_bounds = c.requires.in_bounds; text_in_bounds = going_room (going_more (begun (goal.at.put_told-third-requires c).Start) c.put_told-second.ensures) }

pub put_told-fourth-requires : goal.put_told-fourth-requires
put_told-fourth-requires c =
    record { in_bounds = c.requires.in_bounds; text_in_bounds = going_room (going_more (going_more (begun (goal.at.put_told-fourth-requires c).Start) c.put_told-second.ensures) c.put_told-third.ensures) }

pub put_told-requires : goal.put_told-requires
put_told-requires c =
    record { in_bounds = c.requires.in_bounds; text_in_bounds = going_room (going_more (going_more (going_more (begun (goal.at.put_told-requires c).Start) c.put_told-second.ensures) c.put_told-third.ensures) c.put_told-fourth.ensures) }

pub returns : goal.returns
returns c =
    going_all (going_more (going_more (going_more (going_more (begun (goal.at.returns c).Start) c.put_told-second.ensures) c.put_told-third.ensures) c.put_told-fourth.ensures) c.put_told.ensures)
