-- `jobtext::inner::lines::put_spaced` meets its contract: a space, and the number behind it.
use mathlib.Core.Path.{◌≡◌, ◌∙◌}
use borrow.Author.Rules.{sfits_of}
use mir.Syntax.{w64}
use mir.Val.{to_z, of_z}
use mir.Facts.{to_z-of_z}
use Rattle.report.specs.Text.{signed}
use Rattle.report.proofs.PutLaws.{both_put}
use Rattle.jobtext.proofs.inner.lines.put_spaced.Goals as goal

pub returns : goal.returns
returns c =
    let same : to_z w64 (of_z w64 c.from.result) ≡ c.args.z = to_z-of_z {w = w64} (sfits_of c.from.type_inv) ∙ c.from.ensures ∙ to_z-of_z c.ranges.z in
    both_put c.put-behind.ensures (signed c.args.z) c.requires (rw same at c.put_signed.ensures)
