-- `jobtext::inner::lines::put_numbers` meets its contract: the numbers that are left are put behind those that are.
use borrow.Author.Rules.{rules}
use Rattle.jobtext.proofs.LineLaws.{spelling_none, spelling_room, spelling_more, spelling_all}
use Rattle.jobtext.proofs.inner.lines.put_numbers.Goals as goal

pub loop-z-init : goal.loop-z-init
loop-z-init c = spelling_none _ _ _ c.requires

pub put_spaced-behind-requires : goal.put_spaced-behind-requires
put_spaced-behind-requires c =
    spelling_room c.loop-z.invariant _ (search rules) c.loop-z-test.true

pub loop-z-preserved : goal.loop-z-preserved
loop-z-preserved c =
    spelling_more c.loop-z.invariant _ (search rules) c.loop-z-test.true c.put_spaced-behind.ensures

pub shape_of-text : goal.shape_of-text
shape_of-text c = c.loop-z.invariant.going.long

pub returns : goal.returns
returns c = spelling_all c.loop-z.invariant c.loop-z-test.false
