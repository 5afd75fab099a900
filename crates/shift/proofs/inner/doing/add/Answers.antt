-- `shift::inner::doing::add` meets its contract.
use mathlib.Core.Path.{refl}
use native.Mathlib.Omega.{arith}
use Rattle.std.proofs.lemmas.Result.{err_from_is_err_and}
use Rattle.pool.specs.Rows.{lent}
use Rattle.shift.proofs.DoingLaws.{n_there, found_small, did_not_add, did_add}
use borrow.Author.Rules.{rules}
use Rattle.shift.proofs.inner.doing.add.Goals as goal

pub returns-in_err-add_surveyed : goal.returns-in_err-add_surveyed
returns-in_err-add_surveyed c =
    let a = c.args in
    let p = err_from_is_err_and c.from_residual.result c.from_residual.ensures.1 in
    rw (p.1, p.2) (did_not_add (lent a.points.now a.records.now a.n) a.found c.requires a.second a.contour.now _ _ a.n _ c.in_err-add_surveyed.ensures)

pub overflow_add-result : goal.overflow_add-result
overflow_add-result c = let a = c.args in let k = n_there a.points.now a.records.now a.n a.found c.requires in search rules

pub more-requires : goal.more-requires
more-requires c = let a = c.args in let k = found_small (lent a.points.now a.records.now a.n) a.found c.requires a.second in (omega (arith, k.0), omega (arith, k.1))

pub returns : goal.returns
returns c =
    let a = c.args in
    did_add (lent a.points.now a.records.now a.n) a.found c.requires a.second a.contour.now _ 0 _ _ c.in_ok-add_surveyed.ensures refl c.more.ensures
