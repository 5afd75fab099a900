-- `path::inner::before` meets its contract.
use mathlib.Core.Path.{◌≡◌, refl}
use Prim.Native.Nat.{ℕ, zero, suc, ◌-◌}
use native.Mathlib.Omega.{arith}
use Rattle.path.specs.inside.Contains.{before}
use Rattle.path.proofs.inner.before.Goals as goal

-- the position before one that is not the first
before_later : (n i : ℕ) → (i ≡ 0 → ⊥) → i - 1 ≡ before n i
unfolding before
before_later n zero h = absurd (h refl)
before_later n (suc i) h = omega arith

pub returns-then-i-eq0 : goal.returns-then-i-eq0
unfolding before
returns-then-i-eq0 c = rw c.if-i-eq0.true

pub returns-else-i-eq0 : goal.returns-else-i-eq0
returns-else-i-eq0 c = before_later _ _ c.if-i-eq0.false
