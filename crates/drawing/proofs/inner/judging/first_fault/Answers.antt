-- `drawing::inner::judging::first_fault` meets its contract: the first fault of the rest is that of the whole.
use Rattle.std.proofs.lemmas.Result.{err_from_is_err_and}
use mathlib.Core.Path.{refl}
use native.Mathlib.Omega.{arith}
use Rattle.replies.proofs.RefusalLaws.{refusals_have_numbers}
use Rattle.drawing.proofs.FaultLaws.{all_judged, judged_room, judged_no_kind, judged_wrong, judged_past}
use Rattle.drawing.proofs.inner.judging.first_fault.Goals as goal

pub returns-then-kind-gt-CLOSE : goal.returns-then-kind-gt-CLOSE
returns-then-kind-gt-CLOSE c = judged_no_kind c.loop-kind.invariant c.loop-kind-test.true c.if-kind-gt-CLOSE.true

pub read-requires : goal.read-requires
read-requires c = (c.if-kind-gt-CLOSE.false, omega (arith, judged_room c.loop-kind.invariant c.loop-kind-test.true))

pub returns-in_err-fault : goal.returns-in_err-fault
returns-in_err-fault c =
    let p = err_from_is_err_and c.from_residual.result c.from_residual.ensures.1 in
    rw (p.1, p.2) (judged_wrong c.loop-kind.invariant c.loop-kind-test.true _ c.read.ensures _ c.in_err-fault.ensures (refusals_have_numbers _))

pub overflow_add-at : goal.overflow_add-at
overflow_add-at c = omega (arith, c.brought-at.ensures, judged_room c.loop-kind.invariant c.loop-kind-test.true)

pub loop-kind-preserved : goal.loop-kind-preserved
loop-kind-preserved c =
    judged_past c.loop-kind.invariant c.loop-kind-test.true _ c.read.ensures _ c.in_ok-fault.ensures refl _ c.brought-at.ensures

pub returns : goal.returns
returns c = all_judged c.loop-kind.invariant (omega arith)
