-- `clean::inner::look::onward` meets its contract: no corner passed is a spike.
use borrow.Author.Tests.{lt-leb}
use Rattle.std.proofs.Common.{sym, ◌∙◌}
use Rattle.grid.proofs.AlongLaws.{next_short, closing_next}
use Rattle.clean.proofs.LookLaws.{along, onward_skip, onward_turn, onward_on, spike_met, few_kept, onward_all}
use Rattle.clean.proofs.inner.look.onward.Goals as goal
use Rattle.clean.proofs.inner.look.onward.Goals.{then-aligned+else-still+else-backward, else-aligned}

pub aligned-requires : goal.aligned-requires
aligned-requires c =
    next_short c.args.points.now c.requires.0 (along c.args.points.now c.loop-i.invariant) c.loop-i.i c.edge_at-from.ensures

pub loop-i-preserved-then-still : goal.loop-i-preserved-then-still
loop-i-preserved-then-still c =
    onward_skip c.args.points.now c.requires.0 c.loop-i.invariant c.loop-i-test.true c.edge_at-from.ensures (sym c.still.ensures ∙ c.if-still.true)

pub backward-requires : goal.backward-requires
backward-requires c =
    next_short c.args.points.now c.requires.0 (along c.args.points.now c.loop-i.invariant) c.loop-i.i c.edge_at-from.ensures

pub returns-then-backward : goal.returns-then-backward
returns-then-backward c =
    spike_met c.args.points.now c.requires.0 c.loop-i.invariant c.loop-i-test.true c.edge_at-from.ensures
    (sym c.aligned.ensures ∙ c.if-aligned.true) (sym c.still.ensures ∙ c.if-still.false) (sym c.backward.ensures ∙ c.if-backward.true)

pub loop-i-preserved : goal.loop-i-preserved
loop-i-preserved c = elim c.if-aligned.branch [
  | then-aligned+else-still+else-backward w ↦
      onward_on c.args.points.now c.requires.0 c.loop-i.invariant c.loop-i-test.true c.edge_at-from.ensures (sym w.still.ensures ∙ w.if-still.false) (sym w.backward.ensures ∙ w.if-backward.false)
  | else-aligned w ↦
      onward_turn c.args.points.now c.requires.0 c.loop-i.invariant c.loop-i-test.true c.edge_at-from.ensures (sym c.aligned.ensures ∙ w.if-aligned.false)
]

pub reverses-requires : goal.reverses-requires
reverses-requires c =
    let row = c.args.points.now in
    let w = along row c.loop-i.invariant in
    next_short row c.requires.0 w _ (closing_next row c.requires.0 w c.loop-i-test.false _ c.edge_at-closing.ensures)

pub returns-then-kept-ge3 : goal.returns-then-kept-ge3
returns-then-kept-ge3 c =
    onward_all c.args.points.now c.requires.0 c.loop-i.invariant c.loop-i-test.false c.edge_at-closing.ensures c.if-kept-ge3.true c.reverses.result c.reverses.ensures

pub returns-else-kept-ge3 : goal.returns-else-kept-ge3
returns-else-kept-ge3 c =
    lt-leb 3 _ c.if-kept-ge3.false ∙ few_kept c.args.points.now c.requires.0 c.loop-i.invariant c.loop-i-test.false c.if-kept-ge3.false
