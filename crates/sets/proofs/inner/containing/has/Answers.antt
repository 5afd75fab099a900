-- `sets::inner::containing::has` meets its contract.
use Rattle.std.proofs.Common.{◌<◌, length, sym, ◌∙◌, arith, eq-eqb, ap, not}
use Rattle.std.proofs.lemmas.Bool.{eqb-true, eqb-false}
use Rattle.sets.proofs.ContainsLaws.{nothing_there, outside_first, later_decide}
use Rattle.sets.proofs.inner.containing.has.Goals as goal

pub returns-then-is_empty : goal.returns-then-is_empty
returns-then-is_empty c =
    let s = c.args in
    nothing_there s.p s.points.now s.ranges.now (omega (arith, eqb-true (length s.ranges.now) 0 (sym c.is_empty.ensures ∙ c.if-is_empty.true)))

pub returns-then-location-ne-OUTSIDE : goal.returns-then-location-ne-OUTSIDE
returns-then-location-ne-OUTSIDE c =
    let s = c.args in
    let some : 0 < length s.ranges.now = omega (arith, eqb-false (length s.ranges.now) 0 (sym c.is_empty.ensures ∙ c.if-is_empty.false)) in
    c.inside_no_later.ensures ∙ later_decide s.p s.points.now s.ranges.now some (λ e. c.if-location-ne-OUTSIDE.true (c.location.ensures ∙ e))

pub returns-else-location-ne-OUTSIDE : goal.returns-else-location-ne-OUTSIDE
returns-else-location-ne-OUTSIDE c =
    let s = c.args in
    let some : 0 < length s.ranges.now = omega (arith, eqb-false (length s.ranges.now) 0 (sym c.is_empty.ensures ∙ c.if-is_empty.false)) in
    ap not (eq-eqb _ 0 c.if-location-ne-OUTSIDE.false) ∙ outside_first s.p s.points.now s.ranges.now some (sym c.location.ensures ∙ c.if-location-ne-OUTSIDE.false)
