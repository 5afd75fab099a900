-- `path::contains_point` meets its contract.
use Rattle.std.proofs.Common.{◌≡◌, sym, arith}
use Rattle.std.proofs.lemmas.Result.{err_from_is_err_and}
use Rattle.grid.specs.Domain.{count}
use Rattle.grid.proofs.DomainLaws.{in_domain}
use Rattle.path.proofs.ContainsLaws.{passed_on, asked_of_none}
use Rattle.path.proofs.ContainsLaws.{contains_refused, contains_given}
use Rattle.path.proofs.contains_point.Goals as goal

pub returns-in_err-check : goal.returns-in_err-check
returns-in_err-check c =
    let p = err_from_is_err_and c.from_residual.result c.from_residual.ensures.1 in
    rw (p.1, p.2) (contains_refused _ _ _ _ (passed_on _ _ c.ranges.x c.ranges.y) _ c.in_err-check.ensures)

pub parity_of_four-requires : goal.parity_of_four-requires
parity_of_four-requires c =
    let row = c.args.points.now in
    let four : count row ≡ 4 = omega (arith, c.if-points-eq8.true) in
    let known = asked_of_none _ _ (sym c.in_ok-check.ensures) in
    (rw four at (in_domain row known.0), known.1)

pub returns-then-points-eq8 : goal.returns-then-points-eq8
returns-then-points-eq8 c =
    contains_given _ _ _ _ (passed_on _ _ c.ranges.x c.ranges.y) _ (sym c.in_ok-check.ensures) c.parity_of_four.ensures

pub holds-requires : goal.holds-requires
holds-requires c = asked_of_none _ _ (sym c.in_ok-check.ensures)

pub returns : goal.returns
returns c =
    contains_given _ _ _ _ (passed_on _ _ c.ranges.x c.ranges.y) _ (sym c.in_ok-check.ensures) c.holds.ensures
