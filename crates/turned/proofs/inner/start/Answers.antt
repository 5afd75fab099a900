-- `turned::inner::start` meets its contract: equal least rotations give the start, others show that there is none.
use native.Mathlib.Omega.{arith}
use Rattle.turned.proofs.StartLaws.{start_none, start_some}
use Rattle.turned.proofs.inner.start.Goals as goal

pub returns-then-agree-n : goal.returns-then-agree-n
returns-then-agree-n c =
    let p = c.requires in
    start_none p.0 p.1 p.2 c.least-a.ensures.0 c.least-b.ensures.0 c.agree.ensures c.if-agree-n.true

pub returns : goal.returns
returns c =
    let p = c.requires in
    start_some p.0 p.1 p.2 c.least-a.ensures.0 c.least-b.ensures.0 c.agree.ensures c.if-agree-n.false (omega arith)
