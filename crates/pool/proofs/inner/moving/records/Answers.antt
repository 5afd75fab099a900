-- `pool::inner::moving::records` meets its contract: what has moved so far grows by one.
use Rattle.std.proofs.Common.{ap, ℕ, List, get_or, arith}
use Rattle.pool.proofs.MovingLaws.{next_as_it_was, one_lowered}
use Rattle.pool.proofs.inner.moving.records.Goals as goal

pub overflow_sub-row : goal.overflow_sub-row
overflow_sub-row c =
    let e = next_as_it_was _ _ _ _ _ _ c.requires c.loop-i-test.true c.loop-i.invariant in
    omega (arith, c.requires.starts c.loop-i.i c.loop-i-test.true, ap (λ (r : List ℕ). get_or r 0 0) e)

pub overflow_sub-row-in-loop-i : goal.overflow_sub-row-in-loop-i
overflow_sub-row-in-loop-i c =
    let e = next_as_it_was _ _ _ _ _ _ c.requires c.loop-i-test.true c.loop-i.invariant in
    omega (arith, c.requires.ends c.loop-i.i c.loop-i-test.true, ap (λ (r : List ℕ). get_or r 1 0) e)

pub loop-i-preserved : goal.loop-i-preserved
loop-i-preserved c = one_lowered _ _ _ _ _ _ c.requires c.loop-i-test.true c.loop-i.invariant
