-- `report::inner::counting::walked` meets its contract, however the walk ends.
use native.Mathlib.Omega.{arith}
use Rattle.report.proofs.CountLaws.{few_unmarked}
use Rattle.report.proofs.inner.counting.walked.Goals as goal

pub unmarked-pending-requires : goal.unmarked-pending-requires
unmarked-pending-requires c =
    few_unmarked _ (omega (arith, c.requires.mark_len_bound, c.walk-ending.auto.mark))
