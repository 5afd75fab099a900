-- `jobtext::inner::lines::put_word` meets its contract.
use Rattle.jobtext.proofs.inner.lines.put_word.Goals as goal

pub put-requires : goal.put-requires
put-requires c =
    rw c.if-begins.true at c.requires

pub returns-then-begins : goal.returns-then-begins
returns-then-begins c =
    rw c.if-begins.true c.put.ensures

pub put-requires-2 : goal.put-requires-2
put-requires-2 c =
    rw c.if-begins.false at c.requires

pub returns : goal.returns
returns c =
    rw c.if-begins.false c.put-2.ensures
