-- `account::inner::lines::put` meets its contract: the lines that are left are put from where the loop has come to.
use native.Mathlib.Omega.{arith}
use Rattle.account.proofs.LineLaws.{telling_none, telling_room, telling_more, telling_all}
use Rattle.account.proofs.inner.lines.put.Goals as goal

pub loop-number-init : goal.loop-number-init
loop-number-init c = telling_none _ _ c.requires.list_in_bounds

pub overflow_add-number : goal.overflow_add-number
overflow_add-number c =
    omega (arith, c.requires.numbers c.loop-number.number-index c.loop-number-test.true)

pub put_line-behind-requires : goal.put_line-behind-requires
put_line-behind-requires c =
    telling_room c.loop-number.invariant c.loop-number-test.true

pub loop-number-preserved : goal.loop-number-preserved
loop-number-preserved c =
    telling_more c.loop-number.invariant c.loop-number-test.true c.put_line-behind.ensures

pub returns : goal.returns
returns c = telling_all c.loop-number.invariant c.loop-number-test.false
