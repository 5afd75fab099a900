-- `path::inner::holds` meets its contract: an empty contour contains nothing.
use Rattle.std.proofs.Common.{◌≡◌, ◌*◌, List, ℤ, take, sym, ◌∙◌, ap, subst, arith}
use lib.Seq.{take_all}
use Rattle.grid.specs.Points.{points}
use Rattle.grid.specs.Domain.{count, Contour}
use Rattle.grid.proofs.DomainLaws.{in_domain}
use Rattle.path.specs.Contains.{contained}
use Rattle.path.proofs.ContainsLaws.{nothing_contained}
use Rattle.path.proofs.inner.holds.Goals as goal

-- the part is all of it
whole : (row : List ℤ) → Contour row (count row) → take (2 * count row) row ≡ row
whole row c = take_all (2 * count row) row (omega (arith, c.even))

pub parity-requires : goal.parity-requires
parity-requires c =
    let row = c.args.points.now in
    let contour = in_domain row c.requires.0 in
    (subst (λ (part : List ℤ). Contour part (count row)) (sym (whole row contour)) contour, omega (arith, c.if-n-ne0.true), c.requires.1)

pub returns-then-n-ne0 : goal.returns-then-n-ne0
returns-then-n-ne0 c =
    let row = c.args.points.now in
    c.parity.ensures ∙ ap (λ (part : List ℤ). contained c.args.p (points part)) (whole row (in_domain row c.requires.0))

pub returns-else-n-ne0 : goal.returns-else-n-ne0
returns-else-n-ne0 c = let e = c.if-n-ne0.false in rw e (nothing_contained c.args.p c.args.points.now e)
