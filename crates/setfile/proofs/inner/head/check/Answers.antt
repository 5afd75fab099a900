-- `setfile::inner::head::check` meets its contract.
use Rattle.std.proofs.Common.{◌∙◌}
use Rattle.setfile.proofs.FaultLaws.{only_first}
use Rattle.setfile.proofs.inner.head.check.Goals as goal

pub returns : goal.returns
returns c = c.check_where.ensures ∙ only_first c.args.bytes.now
