-- `pool::free` meets its contract.
use borrow.Author.Tests.{not-true, not-false}
use mathlib.Core.Path.{refl}
use native.Mathlib.Omega.{arith}
use Rattle.pool.specs.Lists.{free as free_of}
use Rattle.pool.specs.Outcome.{free_count}
use Rattle.pool.proofs.ReadLaws.{count_unsound, both_within, free_given}
use Rattle.pool.proofs.free.Goals as goal

pub returns-then-not-found : goal.returns-then-not-found
unfolding free_count
returns-then-not-found c =
    count_unsound _ _ c.surveyed-found.ensures free_of (not-true _ c.if-not-found.true)

pub overflow_add-result : goal.overflow_add-result
overflow_add-result c =
    record { fits = omega (arith, both_within _ _ c.surveyed-found.ensures (not-false _ c.if-not-found.false)) }

pub overflow_sub-result : goal.overflow_sub-result
overflow_sub-result c =
    both_within _ _ c.surveyed-found.ensures (not-false _ c.if-not-found.false)

pub returns : goal.returns
returns c =
    free_given _ _ c.surveyed-found.ensures (not-false _ c.if-not-found.false) _ refl
