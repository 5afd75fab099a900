-- `figures::inner::adding::add_refused` meets its contract.
use mathlib.Core.List.{[], ◌∷◌}
use mathlib.Core.Path.{sym, ◌∙◌, ap}
use Prim.Native.Nat.{ℕ}
use Rattle.replies.specs.Refusals.{number}
use Rattle.figures.specs.Entries.{refused_set}
use Rattle.figures.specs.Batch.{figures_of}
use Rattle.figures.specs.Joining.{sum}
use Rattle.figures.proofs.LimitLaws.{refusals_numbered}
use Rattle.figures.proofs.SumLaws.{answered_over, answered_done}
use Rattle.figures.proofs.OutcomeLaws.{refused_joinable}
use Rattle.figures.proofs.inner.adding.add_refused.Goals as goal

pub returns-then-not-fits : goal.returns-then-not-fits
returns-then-not-fits c = answered_over _ _ _ (sym c.fits.ensures ∙ c.if-not-fits.true)

pub sum-requires : goal.sum-requires
sum-requires c =
    refused_joinable c.args.f (number c.args.refusal) (refusals_numbered c.args.refusal) (sym c.fits.ensures ∙ c.if-not-fits.false) _
    (c.of_entry.ensures ∙ ap (λ (k : ℕ). figures_of (refused_set k ∷ [])) c.number-number.ensures)

pub returns : goal.returns
returns c =
    answered_done _ _ _ _ (sym c.fits.ensures ∙ c.if-not-fits.false)
    (c.sum.ensures ∙ ap (sum c.args.f) (c.of_entry.ensures ∙ ap (λ (k : ℕ). figures_of (refused_set k ∷ [])) c.number-number.ensures))
