-- `jobread::inner::places::dash` meets its contract.
use borrow.Author.Tests.{eq-eqb, ne_eqb}
use Rattle.jobread.specs.Places.{after_dash}
use Rattle.jobread.proofs.inner.places.dash.Goals as goal

pub returns-then-c-eq48 : goal.returns-then-c-eq48
unfolding after_dash
returns-then-c-eq48 c = rw (eq-eqb c.args.c 48 c.if-c-eq48.true, after_dash)

pub returns : goal.returns
unfolding after_dash
returns c = rw (ne_eqb c.args.c 48 c.if-c-eq48.false, after_dash) c.begun.ensures
