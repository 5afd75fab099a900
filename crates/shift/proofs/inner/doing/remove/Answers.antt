-- `shift::inner::doing::remove` meets its contract.
use mathlib.Core.Path.{refl}
use native.Mathlib.Omega.{arith}
use Rattle.pool.proofs.CallLaws.{remove_holds, remove_done}
use Rattle.shift.proofs.DoingLaws.{n_there, did_none, forward, less_fits, did_remove}
use Rattle.shift.proofs.inner.doing.remove.Goals as goal

pub newest-newest-requires : goal.newest-newest-requires
newest-newest-requires c = let a = c.args in n_there a.points.now a.records.now a.n a.found c.requires

pub returns-then-newest-eq0 : goal.returns-then-newest-eq0
returns-then-newest-eq0 c =
    let a = c.args in
    did_none a.points.now a.records.now a.n a.found c.requires a.second _ _ c.number.ensures c.newest-newest.ensures c.if-newest-eq0.true _ refl

pub size-size-requires : goal.size-size-requires
size-size-requires c =
    let a = c.args in
    let w = c.newest-newest.ensures in (
      omega (arith, w.within, n_there a.points.now a.records.now a.n a.found c.requires, c.if-newest-eq0.false),
      forward a.points.now a.records.now a.n a.found c.requires a.second _ _ c.number.ensures w c.if-newest-eq0.false,
    )

pub take_out-requires : goal.take_out-requires
take_out-requires c =
    let a = c.args in
    record { holds = remove_holds a.points.now a.records.now a.n a.second a.found c.requires.surveyed c.requires.sound; newest_nonzero = (omega (arith, c.if-newest-eq0.false), c.newest-newest.ensures.within) }

pub less-requires : goal.less-requires
less-requires c =
    let a = c.args in
    less_fits a.points.now a.records.now a.n a.found c.requires a.second _ _ c.number.ensures c.newest-newest.ensures c.if-newest-eq0.false _ c.size-size.ensures

pub returns : goal.returns
returns c =
    let a = c.args in
    let w = c.newest-newest.ensures in
    let some = c.if-newest-eq0.false in
    let is = c.number.ensures in
    let taken = c.take_out in
    let laid = taken.ensures _ w in
    did_remove a.points.now a.records.now a.n a.found c.requires a.second _ _ is w some _ laid _
    (remove_done a.points.now a.records.now a.n a.second a.found c.requires.surveyed c.requires.sound _ _ is w some taken.new.points taken.new.records laid)
    _ c.size-size.ensures _ c.less.ensures
