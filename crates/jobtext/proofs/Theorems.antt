-- What a user may count on.
use mathlib.Core.Path.{ap₂}
use mathlib.Core.List.{List}
use Prim.Native.Nat.{ℕ, ◌≤◌}
use lib.ListN.{length}
use Rattle.rows.specs.Rows.{front}
use Rattle.replies.proofs.OneOutcome.{Determined, by_its_definition, two}
use Rattle.bits.specs.Bits.{Bytes}
use Rattle.jobtext.specs.Text.{dumped}
use Rattle.jobtext.proofs.LengthLaws.{dumped_short}
use Rattle.jobtext.proofs.inner.dumping.dump.Reads as dump·contract

-- any two outcomes that the contract of `dump` allows are identical: the length that is answered, and the row of text
pub a_file_has_one_text : Determined {O = ℕ × List ℕ} dump·contract.Learnt (λ κs r e. two e (λ bytes text. (r, text.now)))
a_file_has_one_text =
    by_its_definition
    (λ κs a. two a (λ bytes text. (length (dumped bytes.now), front (dumped bytes.now) text.now)))
    (λ κs a r e h. ap₂ (λ (n : ℕ) (t : List ℕ). (n, t)) h.0 h.1)

-- so the room that the program has is enough for any file
pub no_text_is_longer : (f : List ℕ) → Bytes f → length (dumped f) ≤ 1597444
no_text_is_longer = dumped_short
