-- `report::inner::counting::survivors` meets its contract: those that stand are the marks below 2.
use mathlib.Core.Path.{◌≡◌, sym, ◌∙◌}
use lib.Dec.{ltb}
use borrow.Author.Rules.{rules}
use Rattle.std.specs.List.{count_by}
use Rattle.std.proofs.lemmas.List.Sums.{sum-map}
use Rattle.std.proofs.iter.runs.Made.{chains}
use Rattle.report.proofs.CountLaws.{survivors-count}
use Rattle.report.proofs.inner.counting.survivors.Goals as goal

pub returns : goal.returns
returns c =
    let counted : c.sum-kept.result ≡ count_by (λ m. ltb m 2) c.args.mark.now = search (rules, chains, sum-map) in
    c.from.ensures ∙ counted ∙ sym (survivors-count 0 c.args.mark.now)
