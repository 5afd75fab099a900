-- `bits::inner::fields::eight` meets its contract.
use Rattle.std.proofs.Common.{◌∙◌, ap, List, ℕ, drop, arith}
use lib.Seq.{take-take}
use lib.ListN.{length-drop}
use Rattle.std.specs.Int.{w64, from_be_bytes}
use Rattle.bits.proofs.WordLaws.{word_read}
use Rattle.bits.proofs.inner.fields.eight.Goals as goal

pub returns : goal.returns
returns c =
    let s = c.args in
    let f : List ℕ = drop s.at s.bytes.now in
    let chunk = rw c.unwrap.ensures at c.first_chunk.ensures.cases in
    c.from_be_bytes.ensures
    ∙ ap (from_be_bytes w64) (chunk.same ∙ take-take 8 _ f (omega arith))
    ∙ word_read f (omega (arith, length-drop s.at s.bytes.now))
