-- `setfile::inner::fields::pair` meets its contract.
use Rattle.std.proofs.Common.{◌∙◌}
use Rattle.setfile.proofs.FieldLaws.{pair_at}
use Rattle.setfile.proofs.inner.fields.pair.Goals as goal

pub returns : goal.returns
returns c =
    let s = c.args in
    c.from.ensures ∙ c.from_be_bytes.ensures ∙ pair_at s.bytes.now s.at (λ i. (c.type_inv.bytes i).fits) c.requires
