-- `ring::inner::standing` meets its contract: a box stands, and any other contour is looked along, rule by rule.
use mathlib.Core.Path.{sym, ◌∙◌}
use Rattle.ring.proofs.Along.{box_stands}
use Rattle.ring.proofs.inner.standing.Goals as goal

pub returns-then-is_box : goal.returns-then-is_box
returns-then-is_box c =
    box_stands c.args.rule c.args.points.now (sym c.is_box.ensures ∙ c.if-is_box.true) c.requires.0
