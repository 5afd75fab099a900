-- `report::inner::line::put_cell` meets its contract: a number, and a space behind it.
use Rattle.report.specs.Text.{space}
use Rattle.report.proofs.TextLaws.{decimal_is}
use Rattle.report.proofs.DigitLaws.{one_digit}
use Rattle.report.proofs.PutLaws.{room_behind, both_put}
use Rattle.report.proofs.inner.line.put_cell.Goals as goal

pub put-requires : goal.put-requires
put-requires c =
    let number = rw (decimal_is c.args.n 1 c.ranges.n.fits (one_digit c.args.n c.if-n-lt10.true)) at c.put_one-one.ensures in
    room_behind number space c.requires

pub returns-then-n-lt10 : goal.returns-then-n-lt10
returns-then-n-lt10 c =
    let number = rw (decimal_is c.args.n 1 c.ranges.n.fits (one_digit c.args.n c.if-n-lt10.true)) at c.put_one-one.ensures in
    both_put number space c.requires c.put.ensures
