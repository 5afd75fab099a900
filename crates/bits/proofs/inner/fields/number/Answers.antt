-- `bits::inner::fields::number` meets its contract.
use Rattle.std.proofs.Common.{◌∙◌, ap}
use Rattle.bits.specs.Bits.{value}
use Rattle.bits.proofs.WordLaws.{in_front, filled_up}
use Rattle.bits.proofs.inner.fields.number.Goals as goal

pub returns-then-bytes-lt8 : goal.returns-then-bytes-lt8
returns-then-bytes-lt8 c =
    let s = c.args in
    c.long_number.ensures
    ∙ ap value
    (rw (c.or_none.ensures, c.or_none-then-bytes-lt8.ensures, c.or_none-then-bytes-lt8-2.ensures, c.or_none-then-bytes-lt8-3.ensures, c.or_none-then-bytes-lt8-4.ensures, c.or_none-then-bytes-lt8-5.ensures, c.or_none-then-bytes-lt8-6.ensures, c.or_none-then-bytes-lt8-7.ensures, filled_up s.bytes.now c.if-bytes-lt8.true)
    (in_front s.bytes.now _ s.at s.width c.requires.room))
