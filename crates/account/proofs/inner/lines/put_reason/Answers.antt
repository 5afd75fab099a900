-- `account::inner::lines::put_reason` meets its contract.
use mathlib.Core.Path.{ap}
use native.Mathlib.Omega.{arith}
use lib.ListN.{length}
use Rattle.account.proofs.LineLaws.{why_off, why_none}
use Rattle.account.proofs.inner.lines.put_reason.Goals as goal

pub put-requires : goal.put-requires
put-requires c =
    omega (arith, c.requires, ap length (why_off c.args.reason c.if-reason.true))

pub returns-then-reason : goal.returns-then-reason
returns-then-reason c =
    rw (why_off c.args.reason c.if-reason.true) c.put.ensures

pub put-requires-2 : goal.put-requires-2
put-requires-2 c =
    omega (arith, c.requires, ap length (why_none c.args.reason c.if-reason.false))

pub returns : goal.returns
returns c =
    rw (why_none c.args.reason c.if-reason.false) c.put-2.ensures
