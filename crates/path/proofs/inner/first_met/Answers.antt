-- `path::inner::first_met` meets its contract, by the side of the last point.
use mathlib.Core.Path.{sym, ◌∙◌, ap}
use Rattle.grid.specs.declared.Point.{Point}
use Rattle.path.specs.Contains.{above}
use Rattle.path.proofs.ContainsLaws.{side_is}
use Rattle.path.proofs.LocateLaws.{first_from_above, first_from_below, first_from_level}
use Rattle.path.proofs.inner.first_met.Goals as goal

pub returns-then-lies_above : goal.returns-then-lies_above
returns-then-lies_above c =
    first_from_above _ _ c.requires.0 c.requires.1 _ (sym (side_is c.args.p c.lies_above.ensures c.point_at-last.ensures) ∙ c.if-lies_above.true) c.next_across.ensures

pub returns-then-lies_above-2 : goal.returns-then-lies_above-2
returns-then-lies_above-2 c =
    first_from_below _ _ c.requires.0 c.requires.1 _ (sym (c.lies_above-else-lies_above.ensures ∙ ap (λ (a : Point). above a c.args.p) c.point_at-last.ensures) ∙ c.if-lies_above-2.true) c.next_reached.ensures

pub returns-else-lies_above-2 : goal.returns-else-lies_above-2
returns-else-lies_above-2 c =
    first_from_level _ _ c.requires.0 c.requires.1 (sym (side_is c.args.p c.lies_above.ensures c.point_at-last.ensures) ∙ c.if-lies_above.false)
