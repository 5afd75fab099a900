-- `pool::remove` meets its contract.
use borrow.Author.Tests.{not-true, not-false}
use native.Mathlib.Omega.{arith}
use Rattle.pool.proofs.CallLaws.{records_there, remove_unsound, remove_holds, remove_none, remove_done}
use Rattle.pool.proofs.remove.Goals as goal

pub returns-then-not-found : goal.returns-then-not-found
returns-then-not-found c =
    let s = c.args in
    remove_unsound s.points.now s.records.now s.contours.now s.second _ c.surveyed-found.ensures (not-true _ c.if-not-found.true)

pub newest-newest-requires : goal.newest-newest-requires
newest-newest-requires c =
    let s = c.args in
    records_there s.points.now s.records.now s.contours.now _ c.surveyed-found.ensures (not-false _ c.if-not-found.false)

pub returns-then-newest-eq0 : goal.returns-then-newest-eq0
returns-then-newest-eq0 c =
    let s = c.args in
    remove_none s.points.now s.records.now s.contours.now s.second _ c.surveyed-found.ensures (not-false _ c.if-not-found.false)
    _ _ c.number.ensures c.newest-newest.ensures c.if-newest-eq0.true

pub take_out-requires : goal.take_out-requires
take_out-requires c =
    let s = c.args in
    record {
      holds = remove_holds s.points.now s.records.now s.contours.now s.second _ c.surveyed-found.ensures (not-false _ c.if-not-found.false);
      newest_nonzero = (omega arith, c.newest-newest.ensures.within);
    }

pub returns : goal.returns
returns c =
    let s = c.args in
    let w = c.newest-newest.ensures in
    remove_done s.points.now s.records.now s.contours.now s.second _ c.surveyed-found.ensures (not-false _ c.if-not-found.false)
    _ _ c.number.ensures w c.if-newest-eq0.false c.take_out.new.points c.take_out.new.records (c.take_out.ensures _ w)
