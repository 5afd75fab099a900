-- `jobread::inner::places::begun` meets its contract.
use native.Mathlib.Omega.{arith}
use borrow.Author.Tests.{lt-ltb}
use Rattle.jobread.specs.Places.{digit, begun}
use Rattle.jobread.proofs.inner.places.begun.Goals as goal

pub returns-in-Some : goal.returns-in-Some
unfolding begun
returns-in-Some c =
    let e = c.in-Some.ensures in
    rw (e.value, lt-ltb (digit c.args.c) 10 (omega (arith, e.value, e.small)), begun)

pub returns-in-None : goal.returns-in-None
unfolding begun
returns-in-None c = rw (← c.in-None.ensures.value, begun)
