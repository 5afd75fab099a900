-- `buffer::inner::joining::records` meets its contract: what is written so far grows by one.
use Rattle.std.proofs.Common.{add-one, arith}
use Rattle.std.proofs.lemmas.Grind.{common_steps}
use Rattle.buffer.proofs.RowLaws.{shifted_more}
use Rattle.buffer.proofs.inner.joining.records.Goals as goal

pub loop-i-preserved : goal.loop-i-preserved
loop-i-preserved c =
    rw (c.loop-i.invariant, add-one c.loop-i.i)
    (shifted_more c.args.from.now _ c.args.shift c.loop-i.i c.loop-i-test.true (grind (arith, common_steps)))
