-- `clean::inner::settling::settle_from` meets its contract, however the walk ends.
use Rattle.clean.proofs.RowLaws.{pending_unmarked}
use Rattle.clean.proofs.inner.settling.settle_from.Goals as goal

pub overflow_sub-pending : goal.overflow_sub-pending
overflow_sub-pending c = (pending_unmarked c.write-survived.ensures).0

pub turns-requires : goal.turns-requires
turns-requires c =
    let w = c.write-survived.ensures in
    (c.walk-walked.ensures.halted c.if-walked.true, w.points_are, (pending_unmarked w).1)
