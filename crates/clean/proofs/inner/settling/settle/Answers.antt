-- `clean::inner::settling::settle` meets its contract: too few points, copied, or walked.
use mathlib.Core.Path.{◌∙◌}
use Rattle.rows.proofs.RowLaws.{placed_front}
use Rattle.clean.proofs.OutcomeLaws.{settled_few}
use Rattle.clean.proofs.Unchanged.{settled_untouched}
use Rattle.clean.proofs.inner.settling.settle.Goals as goal

pub returns-then-mark-lt3 : goal.returns-then-mark-lt3
returns-then-mark-lt3 c = settled_few _ _ _ c.requires.contour c.if-mark-lt3.true

pub returns-then-standing-mark : goal.returns-then-standing-mark
returns-then-standing-mark c =
    settled_untouched c.args.rule c.args.points.now _ c.requires.contour c.if-mark-lt3.false c.standing-standing.ensures c.if-standing-mark.true _
    (c.copy.ensures ∙ placed_front _ c.args.points.now)
