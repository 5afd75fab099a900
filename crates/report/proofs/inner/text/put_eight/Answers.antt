-- `report::inner::text::put_eight` meets its contract: half of the digits, and the other half.
use Rattle.report.proofs.DigitLaws.{digits_put}
use Rattle.report.proofs.inner.text.put_eight.Goals as goal

pub returns : goal.returns
returns c =
    digits_put 4 4 c.args.n c.requires.1 c.put_four-behind.ensures c.put_four.ensures
