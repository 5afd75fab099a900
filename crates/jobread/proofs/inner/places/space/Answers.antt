-- `jobread::inner::places::space` meets its contract.
use borrow.Author.Tests.{eq-eqb, ne_eqb}
use Rattle.jobread.specs.Places.{after_space}
use Rattle.jobread.proofs.inner.places.space.Goals as goal

pub returns-then-c-eq45 : goal.returns-then-c-eq45
unfolding after_space
returns-then-c-eq45 c = rw (eq-eqb c.args.c 45 c.if-c-eq45.true, after_space)

pub returns : goal.returns
unfolding after_space
returns c = rw (ne_eqb c.args.c 45 c.if-c-eq45.false, after_space) c.begun.ensures
