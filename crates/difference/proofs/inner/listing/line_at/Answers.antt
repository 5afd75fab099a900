-- `difference::inner::listing::line_at` meets its contract: one set has the contour, or both have it.
use mathlib.Core.Path.{◌∙◌, ap₂}
use Rattle.difference.specs.Lines.{compared}
use Rattle.difference.proofs.ListLaws.{told_second, told_first, told_both, in_domain}
use Rattle.difference.proofs.inner.listing.line_at.Goals as goal

pub returns-then-ranges-k : goal.returns-then-ranges-k
returns-then-ranges-k c = let s = c.args in told_second s.points.now s.ranges.now s.others.now s.other_ranges.now s.k c.if-ranges-k.true c.requires.2

pub returns-then-other_ranges-k : goal.returns-then-other_ranges-k
returns-then-other_ranges-k c =
    let s = c.args in
    told_first s.points.now s.ranges.now s.others.now s.other_ranges.now s.k c.if-ranges-k.false c.if-other_ranges-k.true

pub of_two-requires : goal.of_two-requires
of_two-requires c = (
  in_domain c.args.points.now c.args.ranges.now c.requires.0 c.args.k c.if-ranges-k.false c.contour_at.ensures,
  in_domain c.args.others.now c.args.other_ranges.now c.requires.1 c.args.k c.if-other_ranges-k.false c.contour_at-2.ensures,
)

pub returns : goal.returns
returns c =
    let s = c.args in
    c.of_two.ensures
    ∙ ap₂ compared c.contour_at.ensures c.contour_at-2.ensures
    ∙ told_both s.points.now s.ranges.now s.others.now s.other_ranges.now s.k c.if-ranges-k.false c.if-other_ranges-k.false
