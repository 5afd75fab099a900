-- `setfile::inner::contours::on_grid` meets its contract.
use Rattle.std.proofs.Common.{Bool, List, ℤ, sym, ◌∙◌, ap₂}
use Rattle.grid.specs.Limits.{all_on_grid}
use Rattle.setfile.specs.Editions.{bound}
use Rattle.setfile.proofs.ContourLaws.{first_there, second_there}
use Rattle.setfile.proofs.inner.contours.on_grid.Goals as goal

pub on_grid-requires : goal.on_grid-requires
on_grid-requires c = let e = second_there c.requires.0 c.requires.1 c.if-second.true in (e.stands, e.width)

pub returns-then-second : goal.returns-then-second
returns-then-second c =
    c.on_grid.ensures
    ∙ ap₂ (λ (b : Bool) (p : List ℤ). all_on_grid (bound b) p) (sym c.if-second.true) (second_there c.requires.0 c.requires.1 c.if-second.true).points

pub returns : goal.returns
returns c =
    c.all_on.ensures ∙ ap₂ (λ (b : Bool) (p : List ℤ). all_on_grid (bound b) p) (sym c.if-second.false) (first_there c.requires.0 c.requires.1 c.if-second.false).points
