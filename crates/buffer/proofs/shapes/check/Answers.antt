-- `buffer::shapes::check` meets its contract: the bound is the limit.
use borrow.Author.Rules.{rules}
use Rattle.grid.specs.Limits.{limit}
use Rattle.buffer.proofs.shapes.check.Goals as goal

pub shapes-requires : goal.shapes-requires
unfolding limit
shapes-requires c = search rules

pub returns : goal.returns
unfolding limit
returns c = search rules
