-- `jobread::inner::places::number` meets its contract.
use borrow.Author.Tests.{eq-eqb, ne_eqb}
use Rattle.jobread.specs.Places.{after_digit}
use Rattle.jobread.proofs.inner.places.number.Goals as goal

pub returns-then-size-eq0 : goal.returns-then-size-eq0
unfolding after_digit
returns-then-size-eq0 c = rw (eq-eqb c.args.size 0 c.if-size-eq0.true, after_digit)

pub returns : goal.returns
unfolding after_digit
returns c = rw (c.more.ensures, ne_eqb c.args.size 0 c.if-size-eq0.false, after_digit)
