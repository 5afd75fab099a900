-- `drawing::inner::putting::lines` meets its contract: what is written so far grows by one.
use mathlib.Core.Path.{◌≡◌, sym}
use native.Mathlib.Omega.{arith}
use lib.ListN.{length, get_or-replicate}
use Rattle.rows.proofs.RowLaws.{copied_none, copied_more, copied_all}
use Rattle.drawing.proofs.PutLaws.{ones, ones-length}
use Rattle.drawing.proofs.inner.putting.lines.Goals as goal

pub loop-i-init : goal.loop-i-init
loop-i-init c = copied_none _ _ _

pub overflow_add-kinds : goal.overflow_add-kinds
overflow_add-kinds c = omega arith

pub bounds-kinds-at : goal.bounds-kinds-at
bounds-kinds-at c = omega (arith, c.loop-i.invariant.long)

pub loop-i-preserved : goal.loop-i-preserved
loop-i-preserved c =
    let n = c.args.n in
    let k = ones-length n in
    copied_more _ _ _ c.loop-i.invariant 0 1 (omega (arith, c.requires)) (omega (arith, c.loop-i-test.true))
    (sym (get_or-replicate n c.loop-i.i 1 0 c.loop-i-test.true))

pub shape_of-kinds : goal.shape_of-kinds
shape_of-kinds c = c.loop-i.invariant.long

pub returns : goal.returns
returns c =
    let n = c.args.n in
    let done : c.loop-i.i ≡ length (ones n) = omega (arith, ones-length n, c.loop-i.invariant.within) in
    copied_all _ _ _ c.loop-i.invariant done
