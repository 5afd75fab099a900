-- `grid::inner::bounds::within` meets its contract.
use Rattle.std.proofs.Common.{not, sym, ap, ◌∙◌}
use Rattle.replies.proofs.LadderLaws.{first_is}
use Rattle.replies.proofs.LadderLaws.First.{here, past, foot}
use Rattle.grid.proofs.inner.bounds.within.Goals as goal

pub returns-then-not-all_on_grid : goal.returns-then-not-all_on_grid
returns-then-not-all_on_grid c = first_is _ _ (here (ap not (sym c.all_on_grid.ensures) ∙ (ap not c.if-not-all_on_grid.true)))

pub returns : goal.returns
returns c = first_is _ _ (past (ap not (sym c.all_on_grid.ensures) ∙ (ap not c.if-not-all_on_grid.false)) foot)
