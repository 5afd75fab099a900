-- `turned::inner::least` meets its contract: the race goes on, and ends with one start left or with two that are level.
use Rattle.std.proofs.Common.{arith}
use Rattle.turned.proofs.KeyLaws.{word_period}
use Rattle.turned.proofs.RaceLaws.{alone, level}
use Rattle.turned.proofs.inner.least.Goals as goal

pub returns-then-k-n : goal.returns-then-k-n
returns-then-k-n c = (
  level (word_period _ _) c.requires.1 c.loop-race.invariant.0 (rw c.if-k-n.true at c.together-k.ensures) c.loop-race-test.true,
  omega (arith, c.loop-race.invariant.0.order),
)

pub returns : goal.returns
returns c =
    (alone (word_period _ _) c.requires.1 c.loop-race.invariant.0 c.loop-race-test.false, c.loop-race.invariant.2)
