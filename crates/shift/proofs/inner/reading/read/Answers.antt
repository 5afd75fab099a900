-- `shift::inner::reading::read` meets its contract.
use Rattle.shift.proofs.ReadingLaws.{with_press}
use Rattle.shift.proofs.inner.reading.read.Goals as goal

pub with_press-requires : goal.with_press-requires
with_press-requires c = with_press _ c.if-kind-gt4.false c.if-kind-eq2.false c.if-kind-eq3.false
