-- `sets::inner::passing::all_pass` meets its contract.
use Rattle.std.proofs.Common.{◌-◌, [], get_or, length, refl, ◌∙◌, rules, tests}
use Rattle.std.proofs.lemmas.Iterator.{YieldsList-from_range}
use Rattle.std.proofs.lemmas.Iterator.Search.{all_from_yields_List}
use Rattle.grid.specs.Points.{points}
use Rattle.buffer.specs.Spans.{span}
use Rattle.buffer.specs.Sets.{contour}
use Rattle.clean.specs.Verdicts.{passes}
use Rattle.sets.proofs.PartLaws.{every_named}
use Rattle.sets.proofs.inner.passing.all_pass.Goals as goal

pub returns : goal.returns
returns c =
    let s = c.args in
    all_from_yields_List (λ k. passes s.rule (points (contour s.points.now (span (get_or s.ranges.now k []))))) _ _ _ c.all.ensures.ran
    (YieldsList-from_range 0 (length s.ranges.now) _ refl refl) (λ x b q k. search (rules, tests))
    ∙ every_named (λ row. passes s.rule (points row)) s.points.now s.ranges.now (length s.ranges.now - 0) 0 refl
