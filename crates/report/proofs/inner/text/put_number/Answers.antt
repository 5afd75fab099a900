-- `report::inner::text::put_number` meets its contract: what stands before the last eight digits, and those.
use native.Mathlib.Omega.{arith}
use Rattle.report.proofs.DigitLaws.{rest_room, last_room, last_put}
use Rattle.report.proofs.inner.text.put_number.Goals as goal

pub put_long-behind-requires : goal.put_long-behind-requires
put_long-behind-requires c =
    (omega (arith, c.ranges.n.fits), rest_room c.args.at c.args.text.now 8 c.args.n c.ranges.n.fits c.if-n-lt100000000.false c.requires)

pub put_eight-requires : goal.put_eight-requires
put_eight-requires c =
    (omega arith, last_room c.args.at c.args.text.now 8 c.args.n c.ranges.n.fits c.if-n-lt100000000.false c.requires c.put_long-behind.ensures)

pub returns : goal.returns
returns c =
    let n = c.args.n in
    last_put c.args.at c.args.text.now 8 n c.ranges.n.fits c.if-n-lt100000000.false c.requires c.put_long-behind.ensures c.put_eight.ensures
