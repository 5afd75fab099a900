-- `drawing::inner::judging::place_fault` meets its contract: what is on the grid is finite.
use Rattle.drawing.proofs.FaultLaws.{place_sound, place_off, place_not_finite}
use Rattle.drawing.proofs.inner.judging.place_fault.Goals as goal

pub returns-then-on_grid : goal.returns-then-on_grid
returns-then-on_grid c = place_sound c.args.p (cc)

pub returns-then-finite : goal.returns-then-finite
returns-then-finite c = place_off c.args.p (cc) (cc)

pub returns : goal.returns
returns c = place_not_finite c.args.p (cc)
