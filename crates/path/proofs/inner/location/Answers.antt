-- `path::inner::location` meets its contract: an empty contour has no boundary.
use Rattle.std.proofs.Common.{arith}
use Rattle.grid.proofs.DomainLaws.{in_domain}
use Rattle.path.proofs.LocateLaws.{nothing_located}
use Rattle.path.proofs.inner.location.Goals as goal

pub returns-then-n-eq0 : goal.returns-then-n-eq0
returns-then-n-eq0 c = nothing_located _ _ c.if-n-eq0.true

pub location_among-requires : goal.location_among-requires
location_among-requires c = let p = c.requires in (in_domain _ p.0, omega (arith, c.if-n-eq0.false), p.1)
