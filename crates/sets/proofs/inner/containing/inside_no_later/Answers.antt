-- `sets::inner::containing::inside_no_later` meets its contract.
use Rattle.std.proofs.Common.{◌-◌, not, [], get_or, length, refl, ◌∙◌, rules, tests}
use Rattle.std.proofs.lemmas.Iterator.{YieldsList-from_range}
use Rattle.std.proofs.lemmas.Iterator.Search.{all_from_yields_List}
use Rattle.buffer.specs.Spans.{span}
use Rattle.buffer.specs.Sets.{contour}
use Rattle.sets.specs.Contains.{inside}
use Rattle.sets.proofs.PartLaws.{every_named}
use Rattle.sets.proofs.inner.containing.inside_no_later.Goals as goal

pub returns : goal.returns
returns c =
    let s = c.args in
    all_from_yields_List (λ k. not (inside s.p (contour s.points.now (span (get_or s.ranges.now k []))))) _ _ _ c.all.ensures.ran
    (YieldsList-from_range 1 (length s.ranges.now) _ refl refl) (λ x b q k. search (rules, tests))
    ∙ every_named (λ row. not (inside s.p row)) s.points.now s.ranges.now (length s.ranges.now - 1) 1 refl
