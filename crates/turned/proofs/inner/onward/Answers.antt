-- `turned::inner::onward` meets its contract, one law for each start that loses.
use Rattle.std.proofs.Common.{arith}
use Rattle.turned.proofs.RaceLaws.{ahead, behind}
use Rattle.turned.proofs.inner.onward.Goals as goal

pub returns-then-a-b : goal.returns-then-a-b
returns-then-a-b c =
    let p = c.requires in
    (ahead p.1 p.2 (omega (arith, c.key_at-a.ensures, c.key_at-b.ensures)) (omega arith), omega arith)

pub returns : goal.returns
returns c =
    let p = c.requires in
    (behind p.1 p.2 (omega (arith, c.key_at-a.ensures, c.key_at-b.ensures, p.2.differ p.4)) c.max-i.ensures, omega (arith, p.1.order))
