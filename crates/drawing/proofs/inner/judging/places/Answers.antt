-- `drawing::inner::judging::places` meets its contract: what was counted and what is left make all that the kinds ask for.
use native.Mathlib.Omega.{arith}
use lib.Dec.{ltb}
use lib.ListN.{get_or}
use Rattle.drawing.proofs.CommandLaws.{brought_counted, at_most_one, asked_more, asked_done}
use Rattle.drawing.proofs.inner.judging.places.Goals as goal

pub loop-kind-preserved : goal.loop-kind-preserved
loop-kind-preserved c =
    let kinds = c.args.kinds.now in
    let i = c.loop-kind.kind-index in
    let k = get_or kinds i 0 in
    omega (arith, c.from-n.ensures, at_most_one (ltb k 2), brought_counted k, asked_more kinds i c.loop-kind-test.true)

pub returns : goal.returns
returns c = omega (arith, asked_done c.args.kinds.now c.loop-kind.kind-index (omega arith))
