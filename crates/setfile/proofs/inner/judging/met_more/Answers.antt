-- `setfile::inner::judging::met_more` meets its contract.
use Rattle.setfile.proofs.ContourLaws.{whole_small}
use Rattle.setfile.proofs.JudgeLaws.{met_is}
use Rattle.setfile.proofs.inner.judging.met_more.Goals as goal

pub size-requires : goal.size-requires
size-requires c = whole_small c.requires.1 _ c.header_at-h.ensures

pub returns : goal.returns
returns c =
    let s = c.args in
    rw c.from.ensures (met_is s.second s.bytes.now s.m _ _ _ c.header_at-h.ensures c.size.ensures c.on_grid-on.ensures)
