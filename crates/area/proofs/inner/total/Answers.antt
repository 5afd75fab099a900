-- `area::inner::total` meets its contract: the sum and what is left to add make up the exact area.
use Rattle.std.proofs.Common.{arith, w64}
use Rattle.std.proofs.lemmas.Int.{wrapping_add_is, wrapping_add_onto}
use Rattle.area.proofs.Sums.{gathered_few, gathered_ends, gathered_more, gathered_all}
use Rattle.area.proofs.inner.total.Goals as goal

pub returns-then-n-lt3 : goal.returns-then-n-lt3
returns-then-n-lt3 c = gathered_few c.requires.0 c.if-n-lt3.true

pub loop-i-init : goal.loop-i-init
loop-i-init c = rw (wrapping_add_is w64 c.share.result c.share-2.result (record { sfits = c.share.type_inv }) (record { sfits = c.share-2.type_inv }), c.share.ensures, c.share-2.ensures) (gathered_ends c.requires.0 (omega (arith, c.if-n-lt3.false)))

pub loop-i-preserved : goal.loop-i-preserved
loop-i-preserved c =
    rw (wrapping_add_onto w64 c.loop-i.sum-bits c.share-sum.result c.loop-i.auto.sum.fits (record { sfits = c.share-sum.type_inv }), c.share-sum.ensures)
    (gathered_more c.requires.0 _ _ c.loop-i.invariant (omega (arith, c.loop-i-test.true)))

pub returns : goal.returns
returns c = gathered_all c.requires.0 _ _ c.loop-i.invariant (omega (arith, c.loop-i-test.false))
