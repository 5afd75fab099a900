-- `pool::contours_count` meets its contract.
use borrow.Author.Tests.{not-true, not-false}
use mathlib.Core.Path.{◌∙◌, ap}
use Prim.Native.Nat.{ℕ}
use lib.ListN.{length}
use Rattle.pool.specs.Lists.{own}
use Rattle.pool.specs.Rows.{lent}
use Rattle.pool.specs.Outcome.{number, contours_count}
use Rattle.pool.proofs.CallLaws.{records_there}
use Rattle.pool.proofs.ReadLaws.{count_unsound, contours_given}
use Rattle.pool.proofs.contours_count.Goals as goal

pub returns-then-not-found : goal.returns-then-not-found
unfolding contours_count
returns-then-not-found c =
    count_unsound _ _ c.surveyed-found.ensures (λ l. length (own (number c.args.second) l)) (not-true _ c.if-not-found.true)

pub count-requires : goal.count-requires
count-requires c =
    let s = c.args in
    records_there s.points.now s.records.now s.contours _ c.surveyed-found.ensures (not-false _ c.if-not-found.false)

pub returns : goal.returns
returns c =
    let s = c.args in
    contours_given _ _ c.surveyed-found.ensures (not-false _ c.if-not-found.false) _ _ c.count.ensures
    ∙ ap (λ (p : ℕ). contours_count p (lent s.points.now s.records.now s.contours)) c.number.ensures
