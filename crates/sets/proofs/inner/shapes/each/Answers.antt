-- `sets::inner::shapes::each` meets its contract: what is left is cleaned from where the loop has come to.
use Rattle.std.proofs.Common.{refl}
use Rattle.sets.proofs.EachLaws.{grouping_addable, grouping_more, grouping_all}
use Rattle.sets.proofs.inner.shapes.each.Goals as goal

pub add_shape-at-requires : goal.add_shape-at-requires
add_shape-at-requires c =
    let long = c.loop-from.auto in
    grouping_addable c.loop-from.invariant c.requires c.loop-from-test.true _ refl _ _ _ long.next long.prev long.mark

pub loop-from-preserved : goal.loop-from-preserved
loop-from-preserved c = grouping_more c.loop-from.invariant c.requires c.loop-from-test.true _ refl _ _ _ _ c.add_shape-at.ensures

pub returns : goal.returns
returns c = grouping_all c.loop-from.invariant c.loop-from-test.false
