-- `path::inner::location_among` meets its contract: where no edge may have p, p is outside.
use Rattle.path.proofs.LocateLaws.{untouched_done}
use Rattle.path.proofs.inner.location_among.Goals as goal

pub returns-else-first-n : goal.returns-else-first-n
returns-else-first-n c =
    untouched_done c.args.points.now c.args.p c.requires.0 c.first_met-first.ensures c.if-first-n.false
