-- `bits::inner::signs::signed` meets its contract.
use Rattle.bits.proofs.CodeLaws.{high_read}
use Rattle.bits.proofs.inner.signs.signed.Goals as goal

pub returns-else-n-half : goal.returns-else-n-half
returns-else-n-half c =
    let s = c.args in
    let p = c.requires in
    high_read s.width s.n p.0 p.1 p.2 c.if-n-half.false
