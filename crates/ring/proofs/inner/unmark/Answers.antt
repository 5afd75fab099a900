-- `ring::inner::unmark` meets its contract: a survivor's mark is 0 or 1.
use Rattle.ring.proofs.Links.{unmarked_any}
use Rattle.ring.proofs.inner.unmark.Goals as goal

pub returns : goal.returns
returns c = rw c.from.ensures (unmarked_any _ _ c.requires)
