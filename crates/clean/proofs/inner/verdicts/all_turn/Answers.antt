-- `clean::inner::verdicts::all_turn` meets its contract.
use mathlib.Core.Path.{◌∙◌}
use native.Mathlib.Omega.{arith}
use Rattle.grid.proofs.DomainLaws.{in_domain}
use Rattle.ring.specs.declared.Rule.TheVariants.{Collinear}
use Rattle.ring.specs.Rule.{goes_at}
use Rattle.clean.proofs.VerdictLaws.{simple_few, simple_many}
use Rattle.clean.proofs.Unchanged.{standing_all}
use Rattle.clean.proofs.inner.verdicts.all_turn.Goals as goal

pub returns-then-n-lt3 : goal.returns-then-n-lt3
returns-then-n-lt3 c = simple_few _ c.if-n-lt3.true

pub standing_by-requires : goal.standing_by-requires
standing_by-requires c = (in_domain _ c.requires, omega (arith, c.if-n-lt3.false))

pub returns : goal.returns
returns c =
    standing_all (goes_at Collinear) _ (in_domain _ c.requires) c.standing_by.ensures ∙ simple_many _ c.if-n-lt3.false
