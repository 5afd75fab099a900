-- `jobread::inner::reading::value` meets its contract.
use native.Mathlib.Omega.{arith}
use mir.Syntax.{w32}
use mir.Facts.{to_z_pos}
use Rattle.jobread.proofs.RowLaws.{below_fits, below_is}
use Rattle.jobread.proofs.inner.reading.value.Goals as goal

pub overflow_sub-result : goal.overflow_sub-result
overflow_sub-result c = below_fits c.args.size c.requires

pub returns-then-below : goal.returns-then-below
returns-then-below c = rw c.if-below.true (below_is c.args.size c.requires)

pub returns : goal.returns
returns c = rw c.if-below.false (to_z_pos w32 (omega (arith, c.requires)))
