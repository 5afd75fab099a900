-- Integers modulo 2^64.
use Rattle.std.specs.Prelude.{ℕ, suc, ◌-◌, ◌%◌, ◌^◌, ℤ, pos, negsuc}

-- the number from 0 to 2^64 - 1 that differs from z by a multiple of 2^64
unfoldable pub mod64 : ℤ → ℕ
mod64 (pos n) = n % 2 ^ 64
mod64 (negsuc n) = 2 ^ 64 - suc (n % 2 ^ 64)
