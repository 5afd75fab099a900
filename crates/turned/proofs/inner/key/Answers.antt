-- `turned::inner::key` meets its contract.
use Rattle.std.proofs.Common.{rules}
use Rattle.turned.specs.inside.Words.{key}
use Rattle.turned.proofs.inner.key.Goals as goal

pub returns : goal.returns
unfolding key
returns c = search rules
