-- `ring::inner::goes_along` meets its contract, rule by rule.
use mathlib.Core.Path.{◌≡◌, sym, ◌∙◌, ap}
use mathlib.Core.Bool.{Bool, true}
use Rattle.grid.specs.Edges.{aligned}
use Rattle.ring.specs.Rule.{by, goes_along}
use Rattle.ring.proofs.RuleLaws.{along_turning, along_aligned}
use Rattle.ring.proofs.inner.goes_along.Goals as goal

-- the way does not turn
lined_up : (c : goal.Then-collinear) → aligned c.args.to c.args.from ≡ true
lined_up c = sym c.aligned.ensures ∙ c.if-not-aligned.false

-- the way does not turn
lined_up_2 : (c : goal.Else-collinear) → aligned c.args.to c.args.from ≡ true
lined_up_2 c = sym c.aligned.ensures ∙ c.if-not-aligned.false

pub returns-then-not-aligned : goal.returns-then-not-aligned
returns-then-not-aligned c = along_turning _ _ _ (sym c.aligned.ensures ∙ c.if-not-aligned.true)

pub returns-then-collinear : goal.returns-then-collinear
returns-then-collinear c = along_aligned _ _ _ (lined_up c) (ap by c.if-collinear.true)

pub spike_along-requires : goal.spike_along-requires
spike_along-requires c = (c.requires, lined_up_2 c)

pub returns : goal.returns
returns c = c.spike_along.ensures ∙ ap (λ (b : Bool). goes_along (by b) c.args.to c.args.from) (sym c.if-collinear.false)
