-- `turned::inner::key_at` meets its contract.
use Rattle.std.proofs.Common.{rules}
use Rattle.turned.specs.inside.Words.{word}
use Rattle.turned.proofs.inner.key_at.Goals as goal

pub returns : goal.returns
unfolding word
returns c = search rules
