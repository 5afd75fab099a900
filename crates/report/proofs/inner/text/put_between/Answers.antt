-- `report::inner::text::put_between` meets its contract: a word, a number and a word.
use Rattle.report.specs.Text.{decimal}
use Rattle.report.proofs.PutLaws.{going_three, going_more, going_all}
use Rattle.report.proofs.inner.text.put_between.Goals as goal

pub returns : goal.returns
returns c =
    let s = c.args in
    let due = going_three s.at s.text.now s.word.now (decimal s.n) s.behind.now c.requires in
    going_all (going_more (going_more (going_more due c.put-second.ensures) c.put_number-third.ensures) c.put.ensures)
