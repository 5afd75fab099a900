-- `buffer::inner::joining::both_records` meets its contract.
use Rattle.buffer.proofs.RowLaws.{both_placed}
use Rattle.buffer.proofs.inner.joining.both_records.Goals as goal

pub returns : goal.returns
returns c =
    let s = c.args in
    both_placed s.one.now s.two.now s.out.now s.shift _ _ c.records.ensures c.records-2.ensures
