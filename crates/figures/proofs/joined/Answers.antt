-- `figures::joined` meets its contract.
use mathlib.Core.Path.{sym, ◌∙◌, ap}
use Rattle.figures.specs.Joining.{fits}
use Rattle.figures.proofs.SumLaws.{joined_full, joined_never, joined_done, joinable}
use Rattle.figures.proofs.joined.Goals as goal

pub returns-then-not-fits : goal.returns-then-not-fits
returns-then-not-fits c = joined_full c.args.f c.args.g (sym (c.fits.ensures ∙ ap (fits c.args.f) c.counted.ensures) ∙ c.if-not-fits.true)

pub returns-then-not-possible : goal.returns-then-not-possible
returns-then-not-possible c =
    joined_never c.args.f c.args.g (sym (c.fits.ensures ∙ ap (fits c.args.f) c.counted.ensures) ∙ c.if-not-fits.false) (sym c.possible.ensures ∙ c.if-not-possible.true)

pub sum-requires : goal.sum-requires
sum-requires c =
    joinable c.args.f c.args.g (sym (c.fits.ensures ∙ ap (fits c.args.f) c.counted.ensures) ∙ c.if-not-fits.false) (sym c.possible.ensures ∙ c.if-not-possible.false)

pub returns : goal.returns
returns c =
    joined_done c.args.f c.args.g (sym (c.fits.ensures ∙ ap (fits c.args.f) c.counted.ensures) ∙ c.if-not-fits.false) c.sum.result
    (sym c.possible.ensures ∙ c.if-not-possible.false) c.sum.ensures
