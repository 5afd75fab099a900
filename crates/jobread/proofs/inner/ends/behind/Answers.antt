-- `jobread::inner::ends::behind` meets its contract.
use mathlib.Core.Path.{ap}
use borrow.Author.Tests.{eq-eqb, ne_eqb}
use Rattle.jobread.specs.declared.Reader.{Reader}
use Rattle.jobread.specs.Reading.{behind}
use Rattle.jobread.specs.inside.Rows.{lines_of}
use Rattle.jobread.proofs.inner.ends.behind.Goals as goal

pub returns-then-c-eq32 : goal.returns-then-c-eq32
unfolding behind
returns-then-c-eq32 c =
    let s = c.args in
    rw (eq-eqb s.c 32 c.if-c-eq32.true, behind) (ap (λ (r : Reader). lines_of r s.contours.now s.shapes.now) c.moved.ensures)

pub returns-then-c-eq10 : goal.returns-then-c-eq10
unfolding behind
returns-then-c-eq10 c =
    let s = c.args in
    rw (ne_eqb s.c 32 c.if-c-eq32.false, eq-eqb s.c 10 c.if-c-eq10.true, behind) c.ended.ensures

pub returns : goal.returns
unfolding behind
returns c =
    let s = c.args in
    rw (ne_eqb s.c 32 c.if-c-eq32.false, ne_eqb s.c 10 c.if-c-eq10.false, behind)
    (ap (λ (r : Reader). lines_of r s.contours.now s.shapes.now) c.moved-2.ensures)
