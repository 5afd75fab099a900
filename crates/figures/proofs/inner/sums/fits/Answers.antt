-- `figures::inner::sums::fits` meets its contract.
use mathlib.Core.Path.{◌∙◌}
use native.Mathlib.Omega.{arith}
use Rattle.figures.proofs.PossibleLaws.{fits_not, fits_is}
use Rattle.figures.proofs.inner.sums.fits.Goals as goal

pub returns-then-count-gt65535 : goal.returns-then-count-gt65535
returns-then-count-gt65535 c = fits_not c.args.f c.args.more (omega (arith, c.counted-count.ensures))

pub returns-then-count-more : goal.returns-then-count-more
returns-then-count-more c = fits_not c.args.f c.args.more (omega (arith, c.counted-count.ensures))

pub returns : goal.returns
returns c = c.possible.ensures ∙ fits_is c.args.f c.args.more (omega (arith, c.counted-count.ensures))
