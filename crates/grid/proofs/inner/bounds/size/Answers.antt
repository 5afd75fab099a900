-- `grid::inner::bounds::size` meets its contract, refusal by refusal.
use Rattle.std.proofs.Common.{le-ltb, lt-ltb, eq-eqb, ne_eqb}
use Rattle.grid.specs.Limits.{most}
use Rattle.replies.proofs.LadderLaws.{first_is}
use Rattle.replies.proofs.LadderLaws.First.{here, past, foot}
use Rattle.grid.proofs.inner.bounds.size.Goals as goal

pub returns-then-points-eq1 : goal.returns-then-points-eq1
returns-then-points-eq1 c = first_is _ _ (here (eq-eqb _ _ c.if-points-eq1.true))

pub returns-then-points-gt-MOST : goal.returns-then-points-gt-MOST
unfolding most
returns-then-points-gt-MOST c = first_is _ _ (past (ne_eqb _ _ c.if-points-eq1.false) (here (lt-ltb _ _ c.if-points-gt-MOST.true)))

pub returns : goal.returns
unfolding most
returns c = first_is _ _ (past (ne_eqb _ _ c.if-points-eq1.false) (past (le-ltb _ _ c.if-points-gt-MOST.false) foot))
