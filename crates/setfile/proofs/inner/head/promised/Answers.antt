-- `setfile::inner::head::promised` meets its contract: the count is the low 12 bits of the head.
use Rattle.std.proofs.Common.{ℕ, ◌%◌, ap, ◌∙◌}
use Rattle.setfile.proofs.ByteLaws.{promised_by_pair}
use Rattle.setfile.proofs.inner.head.promised.Goals as goal

pub returns : goal.returns
returns c =
    ap (λ (n : ℕ). n % 4096) c.pair.ensures ∙ promised_by_pair c.args.bytes.now c.requires
