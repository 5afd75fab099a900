-- `setfile::inner::headers::second_size` meets its contract.
use Rattle.setfile.proofs.HeaderLaws.{size_none, size_some}
use Rattle.setfile.proofs.inner.headers.second_size.Goals as goal

pub returns-then-count-eq0 : goal.returns-then-count-eq0
returns-then-count-eq0 c = let s = c.args in size_none s.count s.width c.if-count-eq0.true

pub returns : goal.returns
returns c = let s = c.args in size_some s.count s.width c.if-count-eq0.false
