-- `steps::inner::reading::step` meets its contract.
use Rattle.steps.proofs.ReadLaws.{number_below}
use Rattle.steps.proofs.inner.reading.step.Goals as goal

pub signed-requires : goal.signed-requires
signed-requires c =
    let p = c.requires in
    (p.1.some, p.1.few, rw c.long_number.ensures (number_below p.0))
