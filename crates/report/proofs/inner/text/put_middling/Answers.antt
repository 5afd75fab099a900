-- `report::inner::text::put_middling` meets its contract: what stands before the last four digits, and those.
use native.Mathlib.Omega.{arith}
use Rattle.report.proofs.DigitLaws.{rest_room, last_room, last_put}
use Rattle.report.proofs.inner.text.put_middling.Goals as goal

pub put_short-behind-requires : goal.put_short-behind-requires
put_short-behind-requires c =
    (omega (arith, c.requires.0), rest_room c.args.at c.args.text.now 4 c.args.n (omega (arith, c.requires.0)) c.if-n-lt10000.false c.requires.1)

pub put_four-requires : goal.put_four-requires
put_four-requires c =
    (omega arith, last_room c.args.at c.args.text.now 4 c.args.n (omega (arith, c.requires.0)) c.if-n-lt10000.false c.requires.1 c.put_short-behind.ensures)

pub returns : goal.returns
returns c =
    let n = c.args.n in
    last_put c.args.at c.args.text.now 4 n (omega (arith, c.requires.0)) c.if-n-lt10000.false c.requires.1 c.put_short-behind.ensures c.put_four.ensures
