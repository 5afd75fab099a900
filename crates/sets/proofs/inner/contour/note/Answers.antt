-- `sets::inner::contour::note` meets its contract: the range goes from what was written to what is.
use mathlib.Core.Path.{refl}
use Rattle.sets.proofs.inner.contour.note.Goals as goal

pub returns : goal.returns
returns c = rw c.in-Some.is refl
