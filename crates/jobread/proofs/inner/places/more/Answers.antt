-- `jobread::inner::places::more` meets its contract.
use borrow.Author.Tests.{lt-ltb, le-ltb}
use Rattle.jobread.specs.Places.{largest, more}
use Rattle.jobread.proofs.inner.places.more.Goals as goal

pub returns-then-size-gt-LARGEST : goal.returns-then-size-gt-LARGEST
unfolding more
returns-then-size-gt-LARGEST c = rw (lt-ltb largest c.args.size c.if-size-gt-LARGEST.true, more)

pub returns : goal.returns
unfolding more
returns c = rw (le-ltb largest c.args.size c.if-size-gt-LARGEST.false, more)
