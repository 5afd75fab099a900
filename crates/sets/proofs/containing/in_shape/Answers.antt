-- `sets::containing::in_shape` meets its contract.
use Rattle.std.proofs.lemmas.Result.{err_from_is_err_and}
use Rattle.replies.proofs.RefusalLaws.{refusals_have_numbers}
use Rattle.std.proofs.Common.{rules, ◌≡◌, ℤ, sym, ap, ◌∙◌, w32, to_z, of_z}
use Rattle.grid.specs.Limits.{limit}
use Rattle.grid.specs.declared.Point.{Point}
use Rattle.grid.specs.Points.{on}
use Rattle.buffer.specs.Spans.{spans}
use Rattle.buffer.specs.Sets.{contours}
use Rattle.sets.specs.Contains.{has}
use Rattle.sets.proofs.ContainsLaws.{shape_refused, asked_off, shape_given}
use Rattle.sets.proofs.containing.in_shape.Goals as goal

pub returns-in_err-check : goal.returns-in_err-check
returns-in_err-check c =
    let p = err_from_is_err_and c.from_residual.result c.from_residual.ensures.1 in
    rw (p.1, p.2) (shape_refused _ _ _ _ _ c.in_err-check.ensures (refusals_have_numbers _))

-- the asked point, as it is passed on
asked : {x y x' y' : ℤ} → x' ≡ x → y' ≡ y → ◌≡◌ {A = Point} (record { x = x'; y = y' }) (record { x = x; y = y })
asked p q = rw (p, q)

pub returns-then-not-point_on_grid : goal.returns-then-not-point_on_grid
returns-then-not-point_on_grid c =
    let ex : to_z w32 (of_z w32 c.args.x) ≡ c.args.x = search rules in
    let ey : to_z w32 (of_z w32 c.args.y) ≡ c.args.y = search rules in
    asked_off _ _ _ _ (sym c.in_ok-check.ensures) (sym (c.point_on_grid.ensures ∙ ap (on limit) (asked ex ey)) ∙ c.if-not-point_on_grid.true)

pub returns : goal.returns
returns c =
    let ex : to_z w32 (of_z w32 c.args.x) ≡ c.args.x = search rules in
    let ey : to_z w32 (of_z w32 c.args.y) ≡ c.args.y = search rules in
    shape_given _ _ _ _ (sym c.in_ok-check.ensures) (sym (c.point_on_grid.ensures ∙ ap (on limit) (asked ex ey)) ∙ c.if-not-point_on_grid.false) _
    (c.has.ensures ∙ ap (λ (p : Point). has p (contours c.args.points.now (spans c.args.ranges.now))) (asked ex ey))
