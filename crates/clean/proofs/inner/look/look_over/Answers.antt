-- `clean::inner::look::look_over` meets its contract, rule by rule.
use Rattle.clean.proofs.LookLaws.{looked_all, looked_collinear, looked_spike}
use Rattle.clean.proofs.inner.look.look_over.Goals as goal

pub returns-then-standing-n : goal.returns-then-standing-n
returns-then-standing-n c =
    looked_all c.args.points.now c.requires.0 c.args.rule c.requires.1 _ c.standing-standing.ensures c.if-standing-n.true

pub returns-in-Collinear : goal.returns-in-Collinear
returns-in-Collinear c =
    looked_collinear c.args.points.now c.requires.0 c.args.rule c.requires.1 _ c.standing-standing.ensures c.if-standing-n.false c.in-Collinear.is

pub returns-in-Spike : goal.returns-in-Spike
returns-in-Spike c =
    looked_spike c.args.points.now c.requires.0 c.args.rule c.requires.1 _ c.standing-standing.ensures _ c.none_reverses_after.ensures c.in-Spike.is
