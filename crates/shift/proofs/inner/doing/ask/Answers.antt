-- `shift::inner::doing::ask` meets its contract.
use mathlib.Core.Path.{sym, ◌∙◌}
use Rattle.shift.proofs.DoingLaws.{askable, did_ask_off, did_ask}
use Rattle.shift.proofs.inner.doing.ask.Goals as goal

pub returns-then-not-point_on_grid : goal.returns-then-not-point_on_grid
returns-then-not-point_on_grid c =
    let a = c.args in
    did_ask_off a.points.now a.records.now a.n a.found c.requires a.second a.p _ c.point_on_grid.ensures c.if-not-point_on_grid.true

pub has-yes-requires : goal.has-yes-requires
has-yes-requires c =
    let a = c.args in
    askable a.points.now a.records.now a.n a.found c.requires a.second a.p (sym c.point_on_grid.ensures ∙ c.if-not-point_on_grid.false)

pub returns : goal.returns
returns c =
    let a = c.args in
    did_ask a.points.now a.records.now a.n a.found c.requires a.second a.p _ c.point_on_grid.ensures c.if-not-point_on_grid.false _ c.number.ensures _ c.has-yes.ensures _ c.as_result.ensures
