-- `steps::inner::writing::put_steps` meets its contract: the differences that are left fit behind those that are written.
use Prim.Native.Nat.{◌+◌, ◌<◌}
use native.Mathlib.Omega.{arith}
use lib.ListN.{length}
use Rattle.bits.proofs.SignLaws.{unsigned_below}
use Rattle.steps.specs.inside.Asked.{step}
use Rattle.steps.proofs.WriteLaws.{step_fits, step_space, writing_more, writing_all}
use Rattle.steps.proofs.inner.writing.put_steps.Goals as goal

pub step_bits-n-requires : goal.step_bits-n-requires
step_bits-n-requires c =
    let pre = c.requires in
    let h : c.loop-k.k + 2 < length c.args.contour.now = omega arith in
    (h, pre.on, pre.width, step_fits c.loop-k.invariant.0 h)

pub write-p-requires : goal.write-p-requires
write-p-requires c =
    let l = c.loop-k in
    let h : l.k + 2 < length c.args.contour.now = omega arith in (
      record { small = l.invariant.0.wrote.small; few = l.invariant.1 },
      step_space l.invariant.0 h c.requires.width.few c.requires.room,
      rw c.step_bits-n.ensures (unsigned_below c.args.width c.requires.width.some (step c.args.contour.now l.k) (step_fits l.invariant.0 h)),
    )

pub loop-k-preserved : goal.loop-k-preserved
loop-k-preserved c =
    (writing_more c.loop-k.invariant.0 (omega arith) c.step_bits-n.ensures c.write-p.ensures.0, c.write-p.ensures.1)

pub returns : goal.returns
returns c = let l = c.loop-k in (writing_all l.invariant.0 (omega arith), l.invariant.1)
