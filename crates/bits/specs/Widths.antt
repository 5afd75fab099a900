-- The smallest width that signed numbers fit.
use Rattle.std.specs.Prelude.{Bool, true, false, List, ℕ, zero, suc, ◌-◌, ◌^◌, ltb, ℤ}
use Rattle.bits.specs.Signs.{all_fit}

-- the smallest width from 1 to k + 1 that passes a test which every larger one passes too
unfoldable pub smallest : (ℕ → Bool) → ℕ → ℕ
smallest t zero = 1
smallest t (suc k) = elim (t (suc k)) [ true ↦ smallest t k | false ↦ suc (suc k) ]

-- the smallest width, 1 to 32, that each of these fits
abbrev pub width_of : List ℤ → ℕ
width_of l = smallest (λ (w : ℕ). all_fit w l) 31

-- the smallest width, 1 to 32, for numbers that reach so far
abbrev pub width_for : ℕ → ℕ
width_for m = smallest (λ (w : ℕ). ltb m (2 ^ (w - 1))) 31
