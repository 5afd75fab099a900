-- `setfile::inner::fields::held` meets its contract: the count is the low 15 bits of the header.
use Rattle.std.proofs.Common.{ℕ, ◌%◌, drop, ap, ◌∙◌, arith, length-drop}
use Rattle.setfile.proofs.ByteLaws.{held_by_pair}
use Rattle.setfile.proofs.inner.fields.held.Goals as goal

pub returns : goal.returns
returns c =
    let s = c.args in
    ap (λ (n : ℕ). n % 32768) c.pair.ensures ∙ held_by_pair (drop s.at s.bytes.now) (omega (arith, length-drop s.at s.bytes.now, c.requires))
