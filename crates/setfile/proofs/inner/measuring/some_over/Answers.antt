-- `setfile::inner::measuring::some_over` meets its contract.
use Rattle.std.proofs.Common.{rules, tests, List, ℕ, ltb, ◌∙◌}
use Rattle.std.proofs.lemmas.Iterator.{YieldsList-from_slice}
use Rattle.std.proofs.lemmas.Iterator.Search.{any_from_yields_List}
use Rattle.buffer.specs.Spans.{span, size}
use Rattle.setfile.proofs.MeasureLaws.{over_any}
use Rattle.setfile.proofs.inner.measuring.some_over.Goals as goal

pub returns : goal.returns
returns c =
    any_from_yields_List (λ (r : List ℕ). ltb c.args.n (size (span r))) _ _ _ c.any.ensures.ran (YieldsList-from_slice c.args.ranges.now c.iter.ensures.rest) (λ x b q k. search (rules, tests))
    ∙ over_any c.args.n c.args.ranges.now
