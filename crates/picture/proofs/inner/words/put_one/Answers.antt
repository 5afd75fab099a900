-- `picture::inner::words::put_one` meets its contract: a word, and a number behind it.
use Rattle.report.specs.Text.{decimal}
use Rattle.report.proofs.PutLaws.{both_put}
use Rattle.picture.proofs.inner.words.put_one.Goals as goal

pub returns : goal.returns
returns c =
    both_put c.put-behind.ensures (decimal c.args.n) c.requires c.put_number.ensures
