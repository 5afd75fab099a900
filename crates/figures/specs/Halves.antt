-- An integer as high·2^32 + low, with low from 0 to 2^32 - 1.
use Prim.Native.Nat.{ℕ, suc, ◌-◌, ◌/◌, ◌%◌, ◌^◌}
use lib.IntN.{ℤ, pos, negsuc, ◌+ℤ◌, ◌*ℤ◌}

-- how often 2^32 goes into it, rounded down; negsuc n is -1 - n
unfoldable pub high : ℤ → ℤ
high (pos n) = pos (n / 2 ^ 32)
high (negsuc n) = negsuc (n / 2 ^ 32)

-- what is left then
unfoldable pub low : ℤ → ℕ
low (pos n) = n % 2 ^ 32
low (negsuc n) = 2 ^ 32 - suc (n % 2 ^ 32)

-- high·2^32 + low
abbrev pub whole : ℤ → ℕ → ℤ
whole h l = h *ℤ pos (2 ^ 32) +ℤ pos l
