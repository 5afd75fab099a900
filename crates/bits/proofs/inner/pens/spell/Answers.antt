-- `bits::inner::pens::spell` meets its contract.
use Rattle.std.proofs.Common.{List, ℕ, take, drop, ◌∙◌, ap, arith}
use Rattle.bits.proofs.WordLaws.{spelled_four, spelled-length}
use Rattle.bits.proofs.PenLaws.{written}
use Rattle.bits.proofs.inner.pens.spell.Goals as goal

pub returns : goal.returns
returns c =
    let s = c.args in
    let e = c.copy_from_slice.ensures.after ∙ ap (λ (l : List ℕ). take 4 (drop 4 l)) c.to_be_bytes.ensures ∙ spelled_four s.n in
    rw e (written s.bytes.now _ s.at _ (omega (arith, spelled-length 4 s.n)))
