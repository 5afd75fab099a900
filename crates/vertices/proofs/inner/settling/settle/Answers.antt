-- `vertices::inner::settling::settle` meets its contract, however the walk ends.
use mathlib.Core.Path.{◌≡◌, ◌∙◌, ap}
use Prim.Native.Nat.{ℕ}
use borrow.Author.Rules.{rules}
use borrow.Author.Tests.{not-true, not-false}
use lib.ListN.{length, replicate}
use Rattle.ring.specs.declared.Rule as R
use Rattle.ring.specs.Walk.{removed}
use Rattle.report.specs.Listing.{rule_of}
use Rattle.vertices.specs.Vertices.{kept_of}
use Rattle.vertices.proofs.KeptLaws.{settled_few, settled_fallen, settled_kept}
use Rattle.vertices.proofs.inner.settling.settle.Goals as goal

pub returns-then-mark-lt3 : goal.returns-then-mark-lt3
returns-then-mark-lt3 c =
    let filled : c.fill.new.self ≡ replicate (length c.args.mark.now) removed = search rules in
    settled_few (rule_of c.args.second) c.args.contour.now _ c.requires.contour c.if-mark-lt3.true _ filled

pub returns-then-not-ending : goal.returns-then-not-ending
returns-then-not-ending c =
    let filled : c.fill-then-not-ending.new.self ≡ replicate (length c.walk-ending.new.mark) removed = search rules in
    settled_fallen c.rule.result c.args.contour.now _ c.requires.contour c.walk-ending.result _ _ c.walk-ending.ensures (not-true _ c.if-not-ending.true) _
    (filled ∙ ap (λ (k : ℕ). replicate k removed) c.walk-ending.auto.mark)
    ∙ ap (λ (r : R.Rule). kept_of r c.args.contour.now) c.rule.ensures

pub returns-else-not-ending : goal.returns-else-not-ending
returns-else-not-ending c =
    settled_kept c.rule.result c.args.contour.now _ c.requires.contour c.walk-ending.result _ _ c.walk-ending.ensures (not-false _ c.if-not-ending.false)
    c.walk-ending.auto.mark
    ∙ ap (λ (r : R.Rule). kept_of r c.args.contour.now) c.rule.ensures
