-- `report::inner::counting::answer` meets its contract: too few points, a contour that stands, or a walk.
use mathlib.Core.Path.{refl, ◌∙◌, ap}
use mathlib.Core.List.{[]}
use Rattle.ring.specs.declared.Rule as R
use Rattle.clean.specs.inside.Settling.{alone}
use Rattle.report.specs.Listing.{rule_of}
use Rattle.clean.proofs.OutcomeLaws.{settled_few}
use Rattle.clean.proofs.Unchanged.{settled_untouched}
use Rattle.report.proofs.inner.counting.answer.Goals as goal

pub returns-then-n-lt3 : goal.returns-then-n-lt3
returns-then-n-lt3 c =
    (settled_few (rule_of c.args.second) c.args.contour.now [] c.requires.contour c.if-n-lt3.true).answer

pub returns-then-standing-n : goal.returns-then-standing-n
returns-then-standing-n c =
    (settled_untouched c.rule.result c.args.contour.now [] c.requires.contour c.if-n-lt3.false c.standing-standing.ensures c.if-standing-n.true _ refl).answer
    ∙ ap (λ (r : R.Rule). (alone r c.args.contour.now []).answer) c.rule.ensures
