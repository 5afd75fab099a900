-- `changes::inner::lines::put` meets its contract: the lines that are left are put from where the loop has come to.
use Rattle.changes.proofs.LineLaws.{telling_none, telling_room, telling_more, telling_all}
use Rattle.changes.proofs.inner.lines.put.Goals as goal

pub loop-i-init : goal.loop-i-init
loop-i-init c = telling_none _ _ c.requires.listing_in_bounds

pub put_line-behind-requires : goal.put_line-behind-requires
put_line-behind-requires c =
    (c.requires.places c.loop-i.i c.loop-i-test.true, telling_room c.loop-i.invariant c.loop-i-test.true)

pub loop-i-preserved : goal.loop-i-preserved
loop-i-preserved c =
    telling_more c.loop-i.invariant c.loop-i-test.true c.put_line-behind.ensures

pub returns : goal.returns
returns c = telling_all c.loop-i.invariant c.loop-i-test.false
