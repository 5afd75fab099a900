-- `grid::inner::first_other` meets its contract.
use Rattle.std.proofs.Common.{◌≡◌, ◌-◌, ◌≢◌, rules}
use Rattle.std.proofs.lemmas.Iterator.{first_from_Range}
use borrow.Author.Tests.{tests}
use Rattle.grid.specs.Points.{at}
use Rattle.grid.proofs.CornerLaws.{found_other}
use Rattle.grid.proofs.inner.first_other.Goals as goal

pub returns : goal.returns
returns c =
    let row = c.args.points.now in
    let last = at row (c.args.n - 1) in
    let found = first_from_Range _ _ _ c.find.result (λ i. at row i ≢ last) (λ i. at row i ≡ last) c.find.ensures.ran (λ x q k. search (rules, tests)) (λ x q k. search (rules, tests)) in
    rw c.unwrap_or.ensures (found_other row c.args.n c.find.result found)
