-- `picture::inner::words::put_two` meets its contract: a word and its number, and the others behind them.
use mathlib.Core.List.{◌++◌}
use Rattle.report.specs.Text.{decimal}
use Rattle.report.proofs.PutLaws.{both_put}
use Rattle.picture.proofs.inner.words.put_two.Goals as goal

pub returns : goal.returns
returns c =
    both_put c.put_one-behind.ensures (c.args.other.now ++ decimal c.args.n) c.requires c.put_one.ensures
