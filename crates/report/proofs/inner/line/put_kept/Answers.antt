-- `report::inner::line::put_kept` meets its contract: a count, or a dash.
use Rattle.report.proofs.LineLaws.{kept_count, kept_none}
use Rattle.report.proofs.inner.line.put_kept.Goals as goal

pub put_cell-requires : goal.put_cell-requires
put_cell-requires c = rw (kept_count c.args.cleaned.decisions c.args.cleaned.turns c.in-Some.is) at c.requires

pub returns-in-Some : goal.returns-in-Some
returns-in-Some c = rw (kept_count c.args.cleaned.decisions c.args.cleaned.turns c.in-Some.is) c.put_cell.ensures

pub put-requires : goal.put-requires
put-requires c = rw (kept_none c.args.cleaned.decisions c.args.cleaned.turns c.in-None.is) at c.requires

pub returns-in-None : goal.returns-in-None
returns-in-None c = rw (kept_none c.args.cleaned.decisions c.args.cleaned.turns c.in-None.is) c.put.ensures
