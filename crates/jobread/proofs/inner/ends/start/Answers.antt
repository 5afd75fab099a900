-- `jobread::inner::ends::start` meets its contract.
use borrow.Author.Tests.{eq-eqb, ne_eqb}
use Rattle.jobread.specs.Reading.{after_start}
use Rattle.jobread.proofs.inner.ends.start.Goals as goal

pub returns-then-c-eq115 : goal.returns-then-c-eq115
unfolding after_start
returns-then-c-eq115 c = rw (eq-eqb c.args.c 115 c.if-c-eq115.true, after_start) c.opened.ensures

pub returns-then-c-eq104 : goal.returns-then-c-eq104
unfolding after_start
returns-then-c-eq104 c =
    let s = c.args in
    rw (ne_eqb s.c 115 c.if-c-eq115.false, eq-eqb s.c 104 c.if-c-eq104.true, after_start) c.opened-then-c-eq104.ensures

pub returns : goal.returns
unfolding after_start
returns c =
    let s = c.args in
    rw (ne_eqb s.c 115 c.if-c-eq115.false, ne_eqb s.c 104 c.if-c-eq104.false, after_start) c.moved.ensures
