-- `jobpack::inner::writing::refused` meets its contract.
use native.Mathlib.Omega.{arith}
use lib.ListN.{length-append}
use Rattle.report.proofs.TextLaws.{decimal_short}
use Rattle.jobpack.proofs.PackLaws.{no_file}
use Rattle.jobpack.proofs.inner.writing.refused.Goals as goal

pub put_line-said-requires : goal.put_line-said-requires
put_line-said-requires c = simp length-append (omega (arith, c.requires, decimal_short c.from.result))

pub returns : goal.returns
returns c = no_file c.args.out.now (rw (c.from.ensures, c.number.ensures) at c.put_line-said.ensures)
