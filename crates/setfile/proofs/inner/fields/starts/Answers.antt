-- `setfile::inner::fields::starts` meets its contract.
use Rattle.std.proofs.Common.{leb, drop, ap, ◌∙◌, arith, length-drop}
use Rattle.setfile.proofs.ByteLaws.{starts_by_pair}
use Rattle.setfile.proofs.inner.fields.starts.Goals as goal

pub returns : goal.returns
returns c =
    let s = c.args in
    ap (leb 32768) c.pair.ensures ∙ starts_by_pair (drop s.at s.bytes.now) (omega (arith, length-drop s.at s.bytes.now, c.requires))
