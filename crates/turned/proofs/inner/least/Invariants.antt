use Prim.Native.Nat.{◌+◌, ◌-◌, ◌*◌, ◌<◌, ◌≤◌}
use Rattle.turned.specs.inside.Words.{word}
use Rattle.turned.specs.inside.Races.{Racing}
use Rattle.turned.proofs.inner.least.Given as goal

abbrev pub invariant-loop-race : goal.invariant-loop-race
invariant-loop-race l = Racing (word l.row l.n) l.race.i l.race.j × (l.steps < l.race.i + l.race.j) × (l.steps ≤ 3 * l.n)

abbrev pub decreases-loop-race : goal.decreases-loop-race
decreases-loop-race l = 2 * l.n - (l.race.i + l.race.j)
