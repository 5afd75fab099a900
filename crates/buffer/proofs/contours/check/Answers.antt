-- `buffer::contours::check` meets its contract: the bound is the limit.
use borrow.Author.Rules.{rules}
use Rattle.grid.specs.Limits.{limit}
use Rattle.buffer.proofs.contours.check.Goals as goal

pub contours-requires : goal.contours-requires
unfolding limit
contours-requires c = search rules

pub returns : goal.returns
unfolding limit
returns c = search rules
