-- What a user may count on.
use mathlib.Core.List.{List}
use Prim.Native.Nat.{ℕ, ◌≤◌}
use lib.ListN.{length}
use Rattle.replies.proofs.OneOutcome.{Determined, by_its_definition, three}
use Rattle.account.specs.Words.{account, leaving}
use Rattle.account.proofs.AccountLaws.{account-length}
use Rattle.account.proofs.inner.mending.mend.Reads as mend·contract

-- any two outcomes that the contract of `mend` allows are identical
pub a_file_has_one_account : Determined mend·contract.Learnt (λ κs r e. three e (λ bytes out text. leaving r out.now text.now))
a_file_has_one_account = by_its_definition _ (λ κs a r e h. h)

-- so the room that the program has is enough for any file
pub no_account_is_longer : (f : List ℕ) → length (account f) ≤ 143370
no_account_is_longer = account-length
