-- How large an integer is.
use Rattle.std.specs.Prelude.{ℕ, ◌≤◌, ℤ, nat_abs}

-- -B ≤ z ≤ B; a record, so that B and z are found from a proof of it
pub record In (B : ℕ) (z : ℤ) : Type 0 where
  pub abs : nat_abs z ≤ B
