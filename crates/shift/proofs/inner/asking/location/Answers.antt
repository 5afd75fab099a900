-- `shift::inner::asking::location` meets its contract.
use Rattle.grid.proofs.DomainLaws.{contour_clear}
use Rattle.shift.proofs.inner.asking.location.Goals as goal

pub location-requires : goal.location-requires
location-requires c = (contour_clear _ c.requires.0.contour, c.requires.1)
