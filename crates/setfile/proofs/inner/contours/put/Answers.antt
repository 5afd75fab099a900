-- `setfile::inner::contours::put` meets its contract.
use Rattle.std.proofs.Common.{Bool, List, ℤ, sym, ap, ◌∙◌, ap₂}
use Rattle.grid.specs.Limits.{all_on_grid}
use Rattle.rows.specs.Rows.{placed}
use Rattle.setfile.specs.Editions.{bound}
use Rattle.setfile.proofs.ContourLaws.{first_there, second_there}
use Rattle.setfile.proofs.inner.contours.put.Goals as goal

pub points-requires : goal.points-requires
points-requires c =
    let p = c.requires in
    let e = second_there c.requires.0 c.requires.1 c.if-second.true in
    (e.stands, e.width, ap₂ (λ (b : Bool) (p : List ℤ). all_on_grid (bound b) p) (sym c.if-second.true) e.points ∙ p.2, p.3)

pub returns-then-second : goal.returns-then-second
returns-then-second c =
    let s = c.args in
    c.points.ensures ∙ ap (λ (p : List ℤ). placed s.to p s.out.now) (second_there c.requires.0 c.requires.1 c.if-second.true).points

pub returns-else-second : goal.returns-else-second
returns-else-second c =
    let s = c.args in
    c.coordinates.ensures ∙ ap (λ (p : List ℤ). placed s.to p s.out.now) (first_there c.requires.0 c.requires.1 c.if-second.false).points
