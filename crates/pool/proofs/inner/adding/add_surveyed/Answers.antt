-- `pool::inner::adding::add_surveyed` meets its contract.
use Rattle.std.proofs.lemmas.Result.{err_from_is_err_and}
use Rattle.std.proofs.Common.{refl, arith}
use Rattle.replies.proofs.RefusalLaws.{refusals_have_numbers}
use Rattle.pool.proofs.CallLaws.{shares_small, asked, add_not, add_holds, add_fits, add_done}
use Rattle.pool.proofs.inner.adding.add_surveyed.Goals as goal

pub check-requires : goal.check-requires
check-requires c =
    λ e. let h = shares_small _ c.args.found c.requires c.args.second e in (omega (arith, h.0, c.share-mine.ensures), omega (arith, h.1, c.share-others.ensures))

pub returns-in_err-check : goal.returns-in_err-check
returns-in_err-check c =
    let p = err_from_is_err_and c.from_residual.result c.from_residual.ensures.1 in
    rw (p.1, p.2) (add_not (asked c.requires c.share-mine.ensures c.share-others.ensures c.in_err-check.ensures) c.args.tool (refusals_have_numbers _))

pub append-requires : goal.append-requires
append-requires c =
    let judged = asked c.requires c.share-mine.ensures c.share-others.ensures c.in_ok-check.ensures in
    record { holds = add_holds judged c.args.tool refl; contour_in_bounds = add_fits judged c.args.tool refl }

pub returns : goal.returns
returns c =
    add_done (asked c.requires c.share-mine.ensures c.share-others.ensures c.in_ok-check.ensures) c.args.tool refl _ c.append.new.points c.append.new.records
    c.number-press.ensures c.append.ensures
