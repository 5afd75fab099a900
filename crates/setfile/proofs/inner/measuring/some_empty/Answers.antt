-- `setfile::inner::measuring::some_empty` meets its contract.
use Rattle.std.proofs.Common.{rules, tests, List, ℕ, eqb, ◌∙◌}
use Rattle.std.proofs.lemmas.Iterator.{YieldsList-from_slice}
use Rattle.std.proofs.lemmas.Iterator.Search.{any_from_yields_List}
use Rattle.buffer.specs.Spans.{span, size}
use Rattle.setfile.proofs.MeasureLaws.{empty_any}
use Rattle.setfile.proofs.inner.measuring.some_empty.Goals as goal

pub returns : goal.returns
returns c =
    any_from_yields_List (λ (r : List ℕ). eqb (size (span r)) 0) _ _ _ c.any.ensures.ran (YieldsList-from_slice c.args.ranges.now c.iter.ensures.rest) (λ x b q k. search (rules, tests))
    ∙ empty_any c.args.ranges.now
