-- `tidy::inner::lines::put_reason` meets its contract.
use mathlib.Core.Path.{ap}
use native.Mathlib.Omega.{arith}
use lib.ListN.{length}
use Rattle.tidy.proofs.LineLaws.{why_collapsed, why_behind}
use Rattle.tidy.proofs.inner.lines.put_reason.Goals as goal

pub put-requires : goal.put-requires
put-requires c =
    omega (arith, c.requires, ap length (why_collapsed c.args.fate c.if-fate-eq-COLLAPSED.true))

pub returns-then-fate-eq-COLLAPSED : goal.returns-then-fate-eq-COLLAPSED
returns-then-fate-eq-COLLAPSED c =
    rw (why_collapsed c.args.fate c.if-fate-eq-COLLAPSED.true) c.put.ensures

pub put-requires-2 : goal.put-requires-2
put-requires-2 c =
    omega (arith, c.requires, ap length (why_behind c.args.fate c.if-fate-eq-COLLAPSED.false))

pub returns : goal.returns
returns c =
    rw (why_behind c.args.fate c.if-fate-eq-COLLAPSED.false) c.put-2.ensures
