-- `report::inner::text::put_four` meets its contract: half of the digits, and the other half.
use Rattle.report.proofs.DigitLaws.{digits_put}
use Rattle.report.proofs.inner.text.put_four.Goals as goal

pub returns : goal.returns
returns c =
    digits_put 2 2 c.args.n c.requires.1 c.put_two-behind.ensures c.put_two.ensures
