-- `rows::inner::copy` meets its contract: what is copied so far grows by one.
use Rattle.std.proofs.Common.{arith}
use Rattle.rows.proofs.RowLaws.{copied_none, copied_more, copied_all}
use Rattle.rows.proofs.inner.copy.Goals as goal

pub loop-i-init : goal.loop-i-init
loop-i-init g c = copied_none _ _ _

pub loop-i-preserved : goal.loop-i-preserved
loop-i-preserved g c = copied_more _ _ _ c.loop-i.invariant c.index-from-i.result c.index-from-i.result c.requires c.loop-i-test.true c.index-from-i.is

pub returns : goal.returns
returns g c = copied_all _ _ _ c.loop-i.invariant (omega (arith, c.loop-i.invariant.within, c.loop-i-test.false))
