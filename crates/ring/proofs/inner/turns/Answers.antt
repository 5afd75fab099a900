-- `ring::inner::turns` meets its contract: the decisions that were made, and the last round where one is unmarked still.
use mathlib.Core.Path.{sym, ◌∙◌}
use native.Mathlib.Omega.{arith}
use Rattle.ring.proofs.Rounds.{all_decided, turns_fit}
use Rattle.ring.proofs.inner.turns.Goals as goal

pub returns-then-pending-eq0 : goal.returns-then-pending-eq0
returns-then-pending-eq0 c = let p = c.requires in all_decided p.0 (sym p.2 ∙ c.if-pending-eq0.true)

pub overflow_add-result : goal.overflow_add-result
overflow_add-result c =
    let p = c.requires in
    omega (arith, turns_fit p.0, c.idle_round.ensures)
