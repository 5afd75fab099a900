-- `picture::inner::outlines::put_before` meets its contract.
use Rattle.picture.specs.Names.{path, d}
use Rattle.vertices.proofs.DotLaws.{nothing_put}
use Rattle.picture.proofs.PartLaws.{before_none, before_first, before_later}
use Rattle.picture.proofs.inner.outlines.put_before.Goals as goal

pub returns-then-not-begins : goal.returns-then-not-begins
returns-then-not-begins c =
    let s = c.args in
    rw (before_none s.begins s.i c.if-not-begins.true) (nothing_put s.at s.text.now)

pub put-requires : goal.put-requires
unfolding path d
put-requires c =
    rw (before_first c.args.begins c.args.i c.if-not-begins.false c.if-i-eq0.true) at c.requires

pub returns-then-i-eq0 : goal.returns-then-i-eq0
unfolding path d
returns-then-i-eq0 c =
    let s = c.args in
    rw (before_first s.begins s.i c.if-not-begins.false c.if-i-eq0.true) c.put.ensures

pub put-requires-2 : goal.put-requires-2
unfolding path d
put-requires-2 c =
    rw (before_later c.args.begins c.args.i c.if-not-begins.false c.if-i-eq0.false) at c.requires

pub returns : goal.returns
unfolding path d
returns c =
    let s = c.args in
    rw (before_later s.begins s.i c.if-not-begins.false c.if-i-eq0.false) c.put-2.ensures
