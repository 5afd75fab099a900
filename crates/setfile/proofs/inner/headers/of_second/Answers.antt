-- `setfile::inner::headers::of_second` meets its contract.
use Rattle.std.proofs.Common.{arith, length-drop}
use Rattle.bits.specs.Bits.{bits}
use Rattle.bits.proofs.BitLaws.{bits-length}
use Rattle.setfile.specs.inside.Reading.{from_bit}
use Rattle.setfile.proofs.HeaderLaws.{second_header}
use Rattle.setfile.proofs.inner.headers.of_second.Goals as goal

pub returns : goal.returns
returns c =
    let f = c.args.bytes.now in
    second_header (from_bit f c.args.at) (omega (arith, length-drop c.args.at (bits f), bits-length f, c.requires.1)) _ c.number-all.ensures
