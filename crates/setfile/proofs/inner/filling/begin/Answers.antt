-- `setfile::inner::filling::begin` meets its contract.
use Rattle.std.proofs.Common.{Bool, sym, ap}
use Rattle.setfile.specs.inside.Reading.{next_open, closed}
use Rattle.setfile.proofs.inner.filling.begin.Goals as goal

pub returns-then-begins : goal.returns-then-begins
returns-then-begins c =
    let s = c.args in
    let begins = sym c.if-begins.true in
    (ap (λ (b : Bool). next_open b s.shape s.i) begins, ap (λ (b : Bool). closed b s.shape s.i s.groups.now) begins)
