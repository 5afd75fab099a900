-- `figures::none` meets its contract.
use mathlib.Core.Path.{refl}
use Rattle.figures.specs.Halves.{high, low}
use Rattle.figures.specs.Batch.{tally, sum_of, areas, figures_of}
use Rattle.figures.proofs.none.Goals as goal

pub returns : goal.returns
unfolding figures_of tally sum_of areas high low
returns c = refl
