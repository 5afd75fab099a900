-- `pool::inner::adding::full` meets its contract.
use Rattle.std.proofs.Common.{arith}
use Rattle.grid.specs.Limits.{most}
use Rattle.pool.proofs.inner.adding.full.Goals as goal

pub overflow_add-result : goal.overflow_add-result
unfolding most
overflow_add-result c = omega (arith, c.holding.ensures)
