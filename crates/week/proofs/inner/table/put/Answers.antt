-- `week::inner::table::put` meets its contract: block by block.
use native.Mathlib.Omega.{arith}
use borrow.Author.Rules.{rules}
use Rattle.report.proofs.PutLaws.{Going, going_none, going_room, going_more, going_all}
use Rattle.week.specs.Table.{table}
use Rattle.week.proofs.TableLaws.{table_words, table_joined}
use Rattle.week.proofs.inner.table.put.Goals as goal
use Rattle.week.proofs.inner.table.put.Goals.{Start}

-- all of it is to be put
begun : (c : Start) → let s = c.args in
    Going 0 (table s.f) s.text.now 0 s.text.now (table_words s.f)
begun c = let s = c.args in going_none 0 s.text.now (table_words s.f) (table_joined s.f) (omega (arith, c.requires.f_in_bounds))

pub put_contours-second-requires : goal.put_contours-second-requires
put_contours-second-requires c =
    record { in_bounds = search rules; totals_in_bounds = going_room (begun (goal.at.put_contours-second-requires c).Start) }

pub put_unread-third-requires : goal.put_unread-third-requires
put_unread-third-requires c =
    record { in_bounds = search rules; totals_in_bounds = going_room (going_more (begun (goal.at.put_unread-third-requires c).Start) c.put_contours-second.ensures) }

pub put_refused-fourth-requires : goal.put_refused-fourth-requires
put_refused-fourth-requires c =
    record { in_bounds = search rules; totals_in_bounds = going_room (going_more (going_more (begun (goal.at.put_refused-fourth-requires c).Start) c.put_contours-second.ensures) c.put_unread-third.ensures) }

pub put_sums-requires : goal.put_sums-requires
put_sums-requires c =
    record { f_value = c.requires.f_value; f_in_bounds = going_room (going_more (going_more (going_more (begun (goal.at.put_sums-requires c).Start) c.put_contours-second.ensures) c.put_unread-third.ensures) c.put_refused-fourth.ensures) }

pub returns : goal.returns
returns c =
    going_all (going_more (going_more (going_more (going_more (begun (goal.at.returns c).Start) c.put_contours-second.ensures) c.put_unread-third.ensures) c.put_refused-fourth.ensures) c.put_sums.ensures)
