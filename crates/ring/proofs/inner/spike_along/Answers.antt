-- `ring::inner::spike_along` meets its contract, test by test.
use mathlib.Core.Path.{refl, sym, ◌∙◌}
use Rattle.ring.specs.declared.Rule.TheVariants.{Spike}
use Rattle.ring.proofs.RuleLaws.{along_to, along_from, along_backward}
use Rattle.ring.proofs.inner.spike_along.Goals as goal

pub returns-then-still : goal.returns-then-still
returns-then-still c = along_to Spike _ _ refl (sym c.still.ensures ∙ c.if-still.true)

pub returns-then-still-2 : goal.returns-then-still-2
returns-then-still-2 c =
    along_from Spike _ _ refl (sym c.still.ensures ∙ c.if-still.false) (sym c.still-2.ensures ∙ c.if-still-2.true)

pub returns : goal.returns
returns c =
    along_backward Spike _ _ c.requires.1 _ refl (sym c.still.ensures ∙ c.if-still.false) (sym c.still-2.ensures ∙ c.if-still-2.false) c.backward.ensures
