-- `report::inner::text::put_long` meets its contract: what stands before the last eight digits, and those.
use native.Mathlib.Omega.{arith}
use Rattle.report.proofs.DigitLaws.{rest_room, last_room, last_put}
use Rattle.report.proofs.inner.text.put_long.Goals as goal

pub put_middling-behind-requires : goal.put_middling-behind-requires
put_middling-behind-requires c =
    (omega (arith, c.requires.0), rest_room c.args.at c.args.text.now 8 c.args.n (omega (arith, c.requires.0)) c.if-n-lt100000000.false c.requires.1)

pub put_eight-requires : goal.put_eight-requires
put_eight-requires c =
    (omega arith, last_room c.args.at c.args.text.now 8 c.args.n (omega (arith, c.requires.0)) c.if-n-lt100000000.false c.requires.1 c.put_middling-behind.ensures)

pub returns : goal.returns
returns c =
    let n = c.args.n in
    last_put c.args.at c.args.text.now 8 n (omega (arith, c.requires.0)) c.if-n-lt100000000.false c.requires.1 c.put_middling-behind.ensures c.put_eight.ensures
