-- `clean::inner::verdicts::no_spikes` meets its contract.
use mathlib.Core.Path.{◌∙◌}
use Rattle.grid.proofs.DomainLaws.{in_domain}
use Rattle.clean.proofs.VerdictLaws.{spikes_few, spikes_many}
use Rattle.clean.proofs.inner.verdicts.no_spikes.Goals as goal

pub returns-then-n-lt3 : goal.returns-then-n-lt3
returns-then-n-lt3 c = spikes_few _ c.if-n-lt3.true

pub none_reverses-requires : goal.none_reverses-requires
none_reverses-requires c = (in_domain _ c.requires, c.if-n-lt3.false)

pub returns : goal.returns
returns c = c.none_reverses.ensures ∙ spikes_many _ c.if-n-lt3.false
