-- `ring::inner::round` meets its contract: each turn of the loop is a decision of the walk.
use Rattle.std.proofs.Common.{◌∙◌, arith}
use Rattle.ring.proofs.Loop.{known, due_here, said, turn_start, turn_ends, turn_stay, stay_less, turn_removable, turn_go, go_less, turn_fall}
use Rattle.ring.proofs.inner.round.Goals as goal

pub loop-mark-init : goal.loop-mark-init
loop-mark-init c = turn_start _ _ c.requires.begun

pub bounds-mark-at : goal.bounds-mark-at
bounds-mark-at c = (known _ _ c.requires.contour.1 c.loop-mark.invariant).at.inside_marks

pub offset_bounds-prev-at : goal.offset_bounds-prev-at
offset_bounds-prev-at c = let k = known _ _ c.requires.contour.1 c.loop-mark.invariant in omega (arith, c.requires.begun.linked.next_long)

pub bounds-prev-at : goal.bounds-prev-at
bounds-prev-at c = (known _ _ c.requires.contour.1 c.loop-mark.invariant).at.inside_prev

pub offset_bounds-next-at : goal.offset_bounds-next-at
offset_bounds-next-at c = let k = known _ _ c.requires.contour.1 c.loop-mark.invariant in omega (arith, c.requires.begun.linked.next_long)

pub bounds-next-at : goal.bounds-next-at
bounds-next-at c = (known _ _ c.requires.contour.1 c.loop-mark.invariant).at.inside_next

pub goes-requires : goal.goes-requires
goes-requires c =
    let k = known _ _ c.requires.contour.1 c.loop-mark.invariant in
    let p = c.requires.contour.0 in
    record {
      a_in = omega (arith, p.even, c.wide-before.ensures);
      b_in = omega (arith, p.even);
      c_in = omega (arith, p.even, c.wide-after.ensures);
      on = p.on;
    }

pub overflow_add-result : goal.overflow_add-result
overflow_add-result c = let k = known _ _ c.requires.contour.1 c.loop-mark.invariant in omega (arith, c.requires.begun.linked.next_long)

pub unmarked-requires : goal.unmarked-requires
unmarked-requires c =
    let k = known _ _ c.requires.contour.1 c.loop-mark.invariant in
    omega (arith, k.fewer, c.if-remaining-le3.true)

pub returns-then-remaining-le3 : goal.returns-then-remaining-le3
returns-then-remaining-le3 c =
    let big = c.requires.contour.1 in
    let x = c.loop-mark.invariant in
    turn_fall _ _ big x (due_here _ _ big x c.loop-mark-test.true) (said _ _ big x c.wide-before.ensures c.wide-after.ensures c.goes.ensures ∙ c.if-goes.true)
    c.if-remaining-le3.true _ c.unmarked.ensures

pub remove-taken-requires : goal.remove-taken-requires
remove-taken-requires c =
    let big = c.requires.contour.1 in
    let x = c.loop-mark.invariant in
    turn_removable _ _ big x (due_here _ _ big x c.loop-mark-test.true) c.if-remaining-le3.false

pub overflow_add-decisions : goal.overflow_add-decisions
overflow_add-decisions c =
    let k = known _ _ c.requires.contour.1 c.loop-mark.invariant in
    omega (arith, c.remove-taken.ensures.small, c.requires.begun.linked.next_long)

pub loop-mark-smaller-then-goes : goal.loop-mark-smaller-then-goes
loop-mark-smaller-then-goes c =
    let big = c.requires.contour.1 in
    let x = c.loop-mark.invariant in
    go_less _ _ big x (due_here _ _ big x c.loop-mark-test.true) c.remove-taken.ensures c.if-remaining-le3.false

pub loop-mark-preserved-then-goes : goal.loop-mark-preserved-then-goes
loop-mark-preserved-then-goes c =
    let big = c.requires.contour.1 in
    let x = c.loop-mark.invariant in
    turn_go _ _ big x (due_here _ _ big x c.loop-mark-test.true) c.remove-taken.ensures
    (said _ _ big x c.wide-before.ensures c.wide-after.ensures c.goes.ensures ∙ c.if-goes.true) c.if-remaining-le3.false _
    (c.wide-before.ensures ∙ (known _ _ big x).at.prev_is)

pub bounds-mark-at-else-goes : goal.bounds-mark-at-else-goes
bounds-mark-at-else-goes c = (known _ _ c.requires.contour.1 c.loop-mark.invariant).at.inside_marks

pub loop-mark-smaller : goal.loop-mark-smaller
loop-mark-smaller c =
    let big = c.requires.contour.1 in
    let x = c.loop-mark.invariant in
    stay_less _ _ big x (due_here _ _ big x c.loop-mark-test.true)

pub loop-mark-preserved : goal.loop-mark-preserved
loop-mark-preserved c =
    let big = c.requires.contour.1 in
    let x = c.loop-mark.invariant in
    turn_stay _ _ big x (due_here _ _ big x c.loop-mark-test.true)
    (said _ _ big x c.wide-before.ensures c.wide-after.ensures c.goes.ensures ∙ c.if-goes.false) _ (c.wide-after.ensures ∙ (known _ _ big x).at.next_is)

pub returns : goal.returns
returns c =
    let big = c.requires.contour.1 in
    let k = known _ _ big c.loop-mark.invariant in
    turn_ends _ _ big c.loop-mark.invariant (omega (arith, k.read, k.survives, c.loop-mark-test.false)) (omega (arith, k.mark_long, c.requires.begun.linked.next_long))
