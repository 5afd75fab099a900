-- `salvage::inner::sifting::complete` meets its contract.
use Prim.Native.Nat.{◌≤◌}
use native.Mathlib.Omega.{arith}
use lib.ListN.{drop, length-drop}
use Rattle.setfile.proofs.ByteLaws.{held_few}
use Rattle.salvage.proofs.inner.sifting.complete.Goals as goal

few : (c : goal.After-held) → c.held.result ≤ 32767
few c =
    let s = c.args in
    omega (arith, c.held.ensures, held_few (drop s.at s.bytes.now) (omega (arith, length-drop s.at s.bytes.now, c.if-rest-lt2.false)))

pub overflow_mul-result : goal.overflow_mul-result
overflow_mul-result c = omega (arith, few c)

pub overflow_add-result : goal.overflow_add-result
overflow_add-result c = omega (arith, few c)
