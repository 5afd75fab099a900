use Rattle.std.proofs.Common.{◌≡◌, ℕ, ◌+◌, ◌<◌, get_or}
use Rattle.ring.proofs.inner.link.Given as goal

abbrev pub invariant-loop-i : goal.invariant-loop-i
invariant-loop-i l = (k : ℕ) → k + 1 < l.i → (get_or l.next k 0 ≡ k + 1) × (get_or l.prev (k + 1) 0 ≡ k)
