-- What a user may count on.
use mathlib.Core.Path.{ap₂}
use mathlib.Core.List.{List}
use Prim.Native.Nat.{ℕ, ◌≤◌}
use lib.ListN.{length}
use Rattle.rows.specs.Rows.{front}
use Rattle.replies.proofs.OneOutcome.{Determined, by_its_definition, two}
use Rattle.report.specs.Listing.{listing}
use Rattle.report.proofs.ReportLaws.{listing-length}
use Rattle.report.proofs.inner.listing.list.Reads as list·contract

-- any two outcomes that the contract of `list` allows are identical: the length that is answered, and the row of text
pub a_file_has_one_listing : Determined {O = ℕ × List ℕ} list·contract.Learnt (λ κs r e. two e (λ bytes text. (r, text.now)))
a_file_has_one_listing =
    by_its_definition
    (λ κs a. two a (λ bytes text. (length (listing bytes.now), front (listing bytes.now) text.now)))
    (λ κs a r e h. ap₂ (λ (n : ℕ) (t : List ℕ). (n, t)) h.0 h.1)

-- so the room that the program has is enough for any file
pub no_listing_is_longer : (f : List ℕ) → length (listing f) ≤ 184312
no_listing_is_longer = listing-length
