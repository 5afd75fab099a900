-- `steps::inner::writing::reaches` meets its contract: which widths all differences fit is told by what is or-ed, and by those that are left.
use mathlib.Core.Path.{sym, subst}
use Prim.Native.Nat.{ℕ, ◌+◌}
use native.Mathlib.Omega.{arith}
use lib.Bits.{bit_or}
use Rattle.steps.proofs.WriteLaws.{Reached, reached_more, reached_all, reached_below}
use Rattle.steps.proofs.inner.writing.reaches.Goals as goal

pub loop-k-preserved : goal.loop-k-preserved
loop-k-preserved c =
    let l = c.loop-k in
    let p = c.args.contour.now in
    subst (λ (m : ℕ). Reached p (bit_or l.all m) (l.k + 1)) (sym c.reach-all.ensures) (reached_more p l.all l.k l.invariant (omega arith))

pub returns : goal.returns
returns c =
    let l = c.loop-k in
    let p = c.args.contour.now in
    (reached_below p l.all l.k l.invariant c.requires, reached_all p l.all l.k l.invariant (omega arith))
