-- `sets::inner::sums::total` meets its contract: the sum and what is left to add make up the sum of all.
use borrow.Author.Rules.{sfits_of}
use Rattle.std.proofs.Common.{◌≡◌, not, List, [], get_or, ℤ, sym, ap, ◌∙◌, eq-eqb, ne_eqb, w64, to_z, ◌+ℤ◌}
use Rattle.std.proofs.Math.Facts.{sfits_to_z}
use Rattle.std.specs.Int.{int_wrap}
use Rattle.std.proofs.lemmas.Int.{wrapping_add_onto}
use Rattle.grid.specs.Limits.{limit}
use Rattle.grid.specs.Points.{points}
use Rattle.grid.specs.Area.{reported}
use Rattle.replies.specs.Ladder.{first_of}
use Rattle.grid.specs.Domain.{count, domain}
use Rattle.area.proofs.AnswerLaws.{refused_none}
use Rattle.buffer.specs.Spans.{span, spans}
use Rattle.buffer.specs.Sets.{contour, contours}
use Rattle.buffer.proofs.PartLaws.{same_numbers}
use Rattle.sets.specs.Area.{filled}
use Rattle.sets.proofs.PartLaws.{part_named, part_in_domain, one_fails, all_pass}
use Rattle.sets.proofs.AreaLaws.{set_empty, set_filled, gathered_more, gathered_all}
use Rattle.sets.proofs.inner.sums.total.Goals as goal

pub named-contour-requires : goal.named-contour-requires
named-contour-requires c = part_named c.args.points.now c.args.ranges.now c.loop-i.i c.requires c.loop-i-test.true

pub returns-then-contour-eq0 : goal.returns-then-contour-eq0
returns-then-contour-eq0 c =
    let p = c.args.points.now in
    let cs = c.args.ranges.now in
    let part : List ℤ = contour p (span (get_or cs c.loop-i.i [])) in
    let none : filled part ≡ _ = ap not (eq-eqb (count part) 0 (ap count (sym (same_numbers c.named-contour.ensures)) ∙ c.if-contour-eq0.true)) in
    set_empty (contours p (spans cs)) (one_fails filled p cs 0 c.loop-i.i c.loop-i.invariant.rest c.loop-i-test.true none)

pub doubled_area-sum-requires : goal.doubled_area-sum-requires
doubled_area-sum-requires c =
    sym
    (refused_none c.named-contour.result.now
    (ap (λ (row : List ℤ). first_of (domain limit row)) (same_numbers c.named-contour.ensures)
    ∙ part_in_domain c.args.points.now c.args.ranges.now c.loop-i.i c.requires c.loop-i-test.true)
    c.if-contour-eq0.false)

pub loop-i-preserved : goal.loop-i-preserved
loop-i-preserved c =
    let p = c.args.points.now in
    let cs = c.args.ranges.now in
    let part : List ℤ = contour p (span (get_or cs c.loop-i.i [])) in
    let is = same_numbers c.named-contour.ensures in
    let old : ℤ = to_z w64 c.loop-i.sum-bits in
    gathered_more p cs c.loop-i.invariant c.loop-i-test.true _
    (ap not (ne_eqb (count part) 0 (λ h. c.if-contour-eq0.false (ap count is ∙ h))))
    (wrapping_add_onto w64 c.loop-i.sum-bits c.doubled_area-sum.result c.loop-i.auto.sum.fits (sfits_of c.doubled_area-sum.type_inv)
    ∙ ap (λ (v : ℤ). int_wrap w64 (old +ℤ v)) (c.doubled_area-sum.ensures ∙ ap (λ (row : List ℤ). reported (points row)) is))

pub returns : goal.returns
returns c =
    let p = c.args.points.now in
    let cs = c.args.ranges.now in
    set_filled (contours p (spans cs)) _ (all_pass filled p cs 0 c.loop-i.i c.loop-i.invariant.rest c.loop-i-test.false)
    (gathered_all p cs c.loop-i.invariant c.loop-i-test.false (sfits_to_z c.loop-i.auto.sum))
