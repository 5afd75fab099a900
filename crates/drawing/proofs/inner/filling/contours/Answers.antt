-- `drawing::inner::filling::contours` meets its contract: what was counted and what is left make all.
use mathlib.Core.Path.{ap}
use native.Mathlib.Omega.{arith}
use lib.Dec.{eqb}
use lib.ListN.{length, get_or}
use Rattle.drawing.proofs.CommandLaws.{at_most_one}
use Rattle.drawing.proofs.FillLaws.{sizes_counted, sizes_done}
use Rattle.drawing.proofs.inner.filling.contours.Goals as goal

pub loop-kind-preserved : goal.loop-kind-preserved
loop-kind-preserved c =
    let kinds = c.args.kinds.now in
    let i = c.loop-kind.kind-index in
    omega (arith, c.from-n.ensures, at_most_one (eqb (get_or kinds i 0) 0), sizes_counted kinds i c.loop-kind-test.true)

pub returns : goal.returns
returns c = omega (arith, ap length (sizes_done c.args.kinds.now c.loop-kind.kind-index (omega arith)))
