-- `fates::inner::shapes::each` meets its contract: the entries of the shapes before the position are told.
use Rattle.std.proofs.Common.{rules}
use Rattle.fates.proofs.EachLaws.{telling_from, forward, ends, ends_in_row, own_tellable, telling_more, telling_all}
use Rattle.fates.proofs.inner.shapes.each.Goals as goal

pub offset_bounds-contours-from : goal.offset_bounds-contours-from
offset_bounds-contours-from c =
    let x = telling_from c.loop-from.invariant.1 c.loop-from-test.true in
    let long = c.requires.tellable.long in
    let a = forward x long c.loop-from-test.true in
    let b = ends x long c.loop-from-test.true in
    search rules

pub slice_bounds-own-count : goal.slice_bounds-own-count
slice_bounds-own-count c = forward (telling_from c.loop-from.invariant.1 c.loop-from-test.true) c.requires.tellable.long c.loop-from-test.true

pub slice_bounds-own-start : goal.slice_bounds-own-start
slice_bounds-own-start c = forward (telling_from c.loop-from.invariant.1 c.loop-from-test.true) c.requires.tellable.long c.loop-from-test.true

pub slice_bounds-own-end : goal.slice_bounds-own-end
slice_bounds-own-end c = ends (telling_from c.loop-from.invariant.1 c.loop-from-test.true) c.requires.tellable.long c.loop-from-test.true

pub slice_bounds-shape-count : goal.slice_bounds-shape-count
slice_bounds-shape-count c = forward (telling_from c.loop-from.invariant.1 c.loop-from-test.true) c.requires.tellable.long c.loop-from-test.true

pub slice_bounds-shape-start : goal.slice_bounds-shape-start
slice_bounds-shape-start c = forward (telling_from c.loop-from.invariant.1 c.loop-from-test.true) c.requires.tellable.long c.loop-from-test.true

pub slice_bounds-shape-end : goal.slice_bounds-shape-end
slice_bounds-shape-end c = ends_in_row (telling_from c.loop-from.invariant.1 c.loop-from-test.true) c.requires.tellable.long c.loop-from-test.true

pub shape-requires : goal.shape-requires
shape-requires c =
    let long = c.loop-from.auto in
    own_tellable (telling_from c.loop-from.invariant.1 c.loop-from-test.true) c.requires.tellable.long c.loop-from-test.true c.requires.tellable _ _ _ long.next long.prev long.mark

pub loop-from-preserved : goal.loop-from-preserved
loop-from-preserved c =
    (_, telling_more (telling_from c.loop-from.invariant.1 c.loop-from-test.true) c.requires.tellable.long c.loop-from-test.true _ c.shape.auto.fates c.shape.ensures)

pub returns : goal.returns
returns c = telling_all c.loop-from.invariant.1 c.requires.tellable.long c.loop-from-test.false
