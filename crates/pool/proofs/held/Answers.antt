-- `pool::held` meets its contract.
use borrow.Author.Tests.{not-true, not-false}
use Rattle.pool.specs.Lists.{held as held_of, own}
use Rattle.pool.specs.Outcome.{number, held_count}
use Rattle.pool.proofs.ReadLaws.{count_unsound, held_given}
use Rattle.pool.proofs.held.Goals as goal

pub returns-then-not-found : goal.returns-then-not-found
unfolding held_count
returns-then-not-found c =
    count_unsound _ _ c.surveyed-found.ensures (λ l. held_of (own (number c.args.second) l)) (not-true _ c.if-not-found.true)

pub returns : goal.returns
returns c =
    held_given _ _ c.surveyed-found.ensures (not-false _ c.if-not-found.false) c.args.second _ c.share.ensures
