-- `report::inner::listing::longest` meets its contract: by what the head of the file promises.
use native.Mathlib.Omega.{arith}
use Prim.Native.Nat.{◌+◌, ◌*◌, ◌≤◌}
use lib.ListN.{length}
use Rattle.setfile.proofs.SizeLaws.{promised_fewer}
use Rattle.report.specs.Listing.{listing}
use Rattle.report.proofs.ReportLaws.{listing_promised, listing_by_count}
use Rattle.report.proofs.inner.listing.longest.Goals as goal

-- the promise bounds the listing, and is itself bounded
bounded : (c : goal.After-promised) → (length (listing c.args.bytes.now) ≤ 37 + 45 * c.promised.result) × (c.promised.result ≤ 4095)
bounded c = listing_by_count c.args.bytes.now c.promised.result c.promised.ensures

pub returns-then-bytes-lt2 : goal.returns-then-bytes-lt2
returns-then-bytes-lt2 c =
    let f = c.args.bytes.now in
    (omega (arith, listing_promised f, promised_fewer f c.if-bytes-lt2.true), omega arith)

pub overflow_mul-result : goal.overflow_mul-result
overflow_mul-result c = omega (arith, (bounded c).1)

pub overflow_add-result : goal.overflow_add-result
overflow_add-result c = omega (arith, (bounded c).1)

pub returns : goal.returns
returns c = ((bounded c).0, omega (arith, (bounded c).1))
