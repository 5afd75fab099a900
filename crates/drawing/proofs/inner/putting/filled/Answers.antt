-- `drawing::inner::putting::filled` meets its contract.
use Rattle.std.proofs.Common.{◌≡◌, ◌<◌, ◌^◌, sym, ◌∙◌, ℕ, List, rules, arith}
use Rattle.std.specs.List.{sum_by}
use Rattle.std.specs.Int.{from_bool}
use Rattle.std.proofs.iter.runs.Made.{chains}
use Rattle.drawing.proofs.PutLaws.{filled_one, filled_summed, filled_few}
use Rattle.drawing.proofs.inner.putting.filled.Goals as goal

pub sum-requires-clause-fits : goal.sum-requires-clause-fits
sum-requires-clause-fits c =
    let ranges = c.args.ranges.now in
    let few : sum_by (λ (r : List ℕ). from_bool (filled_one r)) ranges < 2 ^ 64 = omega (arith, filled_few ranges, c.well_formed) in
    search rules

pub returns : goal.returns
returns c =
    let ranges = c.args.ranges.now in
    let summed : c.sum.result ≡ sum_by (λ (r : List ℕ). from_bool (filled_one r)) ranges = search (rules, chains) in
    summed ∙ sym (filled_summed ranges)
