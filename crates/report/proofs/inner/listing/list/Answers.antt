-- `report::inner::listing::list` meets its contract: how the file was judged says which listing it has.
use native.Mathlib.Omega.{arith}
use Rattle.report.proofs.PutLaws.{put_front}
use Rattle.report.proofs.ReportLaws.{listing_refused, listing_done}
use Rattle.report.proofs.inner.listing.list.Goals as goal

pub put-requires-clause-bytes_in_bounds : goal.put-requires-clause-bytes_in_bounds
put-requires-clause-bytes_in_bounds c =
    rw (listing_done _ c.is_second-second.ensures c.in-Ok.ensures.refusal) at c.requires

pub returns-in-Ok : goal.returns-in-Ok
returns-in-Ok c =
    rw (listing_done _ c.is_second-second.ensures c.in-Ok.ensures.refusal) (put_front c.put.ensures)

pub put_line-requires : goal.put_line-requires
put_line-requires c =
    rw (c.from.ensures, c.number.ensures) (omega (arith, rw (listing_refused _ _ c.in-Err.ensures.refusal) at c.requires))

pub returns-in-Err : goal.returns-in-Err
returns-in-Err c =
    rw (listing_refused _ _ c.in-Err.ensures.refusal) (put_front (rw (c.from.ensures, c.number.ensures) at c.put_line.ensures))
