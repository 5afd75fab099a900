-- `path::inner::one_way` meets its contract: what was seen and what is left to see make up all corners.
use borrow.Author.Rules.{sfits_of}
use borrow.Author.Tests.{le-leb}
use Rattle.std.proofs.Common.{Bool, true, ◌&&◌, sym, ◌∙◌, ap, w32, to_z-of_z}
use Rattle.grid.proofs.AlongLaws.{next_short, closing_next}
use Rattle.path.proofs.ConvexLaws.{sight_start, sight_skip, sight_left, sight_right, sight_on, both_ways, few_distinct, closed}
use Rattle.path.proofs.inner.one_way.Goals as goal
use Rattle.path.proofs.inner.one_way.Goals.{then-turn-gt0+else-seen, else-turn-gt0+then-turn-lt0+else-seen-2, else-turn-gt0+else-turn-lt0+then-not-still, else-turn-gt0+else-turn-lt0+else-not-still}

pub loop-i-init : goal.loop-i-init
loop-i-init c = sight_start c.args.points.now c.requires.0 c.args.first c.requires.1 c.requires.2 _ c.edge_at-closing.ensures

pub turn-turn-requires : goal.turn-turn-requires
turn-turn-requires c =
    next_short c.args.points.now c.requires.0 c.loop-i.invariant.along c.loop-i.i c.edge_at-from.ensures

pub returns-then-seen : goal.returns-then-seen
returns-then-seen c =
    let told = to_z-of_z {w = w32} (sfits_of c.turn-turn.type_inv) ∙ c.turn-turn.ensures in
    both_ways c.args.points.now c.requires.0
    (sight_left c.args.points.now c.requires.0 c.loop-i.invariant c.loop-i-test.true c.edge_at-from.ensures (rw told at c.if-turn-gt0.true))
    c.if-seen.true

pub returns-then-seen-2 : goal.returns-then-seen-2
returns-then-seen-2 c =
    let told = to_z-of_z {w = w32} (sfits_of c.turn-turn.type_inv) ∙ c.turn-turn.ensures in
    both_ways c.args.points.now c.requires.0
    (sight_right c.args.points.now c.requires.0 c.loop-i.invariant c.loop-i-test.true c.edge_at-from.ensures (rw told at c.if-turn-lt0.true))
    (ap (λ (t : Bool). t && true) c.if-seen-2.true)

pub backward-requires : goal.backward-requires
backward-requires c =
    next_short c.args.points.now c.requires.0 c.loop-i.invariant.along c.loop-i.i c.edge_at-from.ensures

pub loop-i-preserved : goal.loop-i-preserved
loop-i-preserved c =
    let row = c.args.points.now in
    let told = to_z-of_z {w = w32} (sfits_of c.turn-turn.type_inv) ∙ c.turn-turn.ensures in
    elim c.if-turn-gt0.branch [
      | then-turn-gt0+else-seen w ↦
          rw (w.to-is, w.seen-is, w.kept-is) (sight_left row c.requires.0 c.loop-i.invariant c.loop-i-test.true c.edge_at-from.ensures (rw told at w.if-turn-gt0.true))
      | else-turn-gt0+then-turn-lt0+else-seen-2 w ↦
          rw (w.to-is, w.seen-is, w.kept-is) (sight_right row c.requires.0 c.loop-i.invariant c.loop-i-test.true c.edge_at-from.ensures (rw told at w.if-turn-lt0.true))
      | else-turn-gt0+else-turn-lt0+then-not-still w ↦
          rw (w.to-is, w.seen-is, w.kept-is)
          (sight_on row c.requires.0 c.loop-i.invariant c.loop-i-test.true c.edge_at-from.ensures
          (rw told at w.if-turn-gt0.false) (rw told at w.if-turn-lt0.false) (sym w.still.ensures ∙ w.if-not-still.true) _ w.backward.ensures)
      | else-turn-gt0+else-turn-lt0+else-not-still w ↦
          rw (w.to-is, w.seen-is, w.kept-is)
          (sight_skip row c.requires.0 c.loop-i.invariant c.loop-i-test.true c.edge_at-from.ensures (sym w.still.ensures ∙ w.if-not-still.false))
    ]

pub closes-requires : goal.closes-requires
closes-requires c =
    let row = c.args.points.now in
    let w = c.loop-i.invariant.along in
    next_short row c.requires.0 w c.args.first (closing_next row c.requires.0 w c.loop-i-test.false c.args.first c.edge_at-closing.ensures)

pub returns-then-kept-le2 : goal.returns-then-kept-le2
returns-then-kept-le2 c =
    le-leb _ 2 c.if-kept-le2.true ∙ few_distinct c.args.points.now c.requires.0 c.loop-i.invariant c.loop-i-test.false c.if-kept-le2.true

pub returns-else-kept-le2 : goal.returns-else-kept-le2
returns-else-kept-le2 c =
    c.closes.ensures ∙ closed c.args.points.now c.requires.0 c.loop-i.invariant c.loop-i-test.false c.edge_at-closing.ensures c.if-kept-le2.false
