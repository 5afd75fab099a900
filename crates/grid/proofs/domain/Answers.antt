-- `grid::domain` meets its contract: the bound is the limit.
use Rattle.std.proofs.Common.{rules}
use Rattle.grid.specs.Limits.{limit}
use Rattle.grid.proofs.domain.Goals as goal

pub domain-requires : goal.domain-requires
unfolding limit
domain-requires c = search rules

pub returns : goal.returns
unfolding limit
returns c = search rules
