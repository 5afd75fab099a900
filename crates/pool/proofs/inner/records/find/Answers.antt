-- `pool::inner::records::find` meets its contract: number k of all is number `rest` of those that follow.
use Rattle.std.proofs.Common.{arith}
use Rattle.pool.proofs.RecordLaws.{seeking_here, seeking_past, seeking_other, seeking_none}
use Rattle.pool.proofs.inner.records.find.Goals as goal
use Rattle.pool.proofs.inner.records.find.Goals.{then-records-i+else-rest-eq0, else-records-i}

pub returns-then-rest-eq0 : goal.returns-then-rest-eq0
returns-then-rest-eq0 c =
    seeking_here c.requires c.loop-i.invariant c.loop-i-test.true c.if-records-i.true c.if-rest-eq0.true

pub loop-i-preserved : goal.loop-i-preserved
loop-i-preserved c = elim c.if-records-i.branch [
  | then-records-i+else-rest-eq0 w ↦ rw w.rest-is (seeking_past c.requires c.loop-i.invariant c.loop-i-test.true w.if-records-i.true w.if-rest-eq0.false)
  | else-records-i w ↦ rw w.rest-is (seeking_other c.requires c.loop-i.invariant c.loop-i-test.true w.if-records-i.false)
]

pub returns : goal.returns
returns c = seeking_none c.requires c.loop-i.invariant (omega arith)
