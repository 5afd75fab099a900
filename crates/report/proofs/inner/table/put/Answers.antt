-- `report::inner::table::put` meets its contract: the heading, and the lines behind it.
use native.Mathlib.Omega.{arith}
use Rattle.report.specs.Text.{heading}
use Rattle.report.specs.Listing.{lines, rule_of, job}
use Rattle.report.proofs.PutLaws.{going_two, going_more, going_all}
use Rattle.report.proofs.inner.table.put.Goals as goal

pub returns : goal.returns
returns c =
    let s = c.args in
    let due = going_two 0 s.text.now heading (lines (rule_of s.second) 1 (job s.bytes.now)) (omega (arith, c.requires.bytes_in_bounds)) in
    going_all (going_more (going_more due c.put-behind.ensures) c.put.ensures)
