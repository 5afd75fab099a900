-- `grid::inner::bounds::some_beyond` meets its contract.
use Rattle.std.proofs.Common.{◌≡◌, ◌∙◌, not, false, ◌||◌, ℤ, Bool, fold, arith}
use Rattle.std.proofs.lemmas.Grind.{common_steps}
use Rattle.grid.specs.Limits.{on_grid}
use Rattle.grid.proofs.LimitLaws.{beyond_folded}
use Rattle.grid.proofs.inner.bounds.some_beyond.Goals as goal

pub returns : goal.returns
returns c =
    let bound = c.args.bound in
    let row = c.args.row.now in
    let folded : c.fold.result ≡ fold (λ (some : Bool) (z : ℤ). some || not (on_grid bound z)) false row = grind (arith, common_steps) in
    folded ∙ beyond_folded bound row false
