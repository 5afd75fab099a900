-- `figures::inner::sums::total` meets its contract.
use Rattle.std.proofs.Common.{◌≡◌, ℕ, sym, ◌∙◌, rules}
use Rattle.std.specs.List.{sum_by}
use Rattle.std.proofs.iter.runs.Made.{chains}
use Rattle.std.proofs.iter.runs.Sources.{sums}
use Rattle.figures.proofs.TotalLaws.{total_is}
use Rattle.figures.proofs.inner.sums.total.Goals as goal

pub sum-requires-clause-fits : goal.sum-requires-clause-fits
sum-requires-clause-fits c = search (rules, sums)

pub returns : goal.returns
returns c =
    let row = c.args.row.now in
    let summed : c.sum.result ≡ sum_by (λ (n : ℕ). n) row = search (rules, chains) in
    summed ∙ sym (total_is row)
