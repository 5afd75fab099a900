-- Laws of signs.
use Rattle.std.proofs.Common.{◌≡◌, zero, suc, true, false, T, ℤ, pos, negsuc, sym, refl, subst, arith, ne_eqb}
use lib.Signed.{lt_z}
use Rattle.integers.specs.Equal.{eq_z}
use Rattle.grid.specs.Edges.{sign}

-- which sign a test shows
pub sign_left : (z : ℤ) → lt_z (pos 0) (sign z) ≡ true → sign z ≡ pos 1
sign_left (pos zero) e = absurd (subst T (sym e) tt)
sign_left (pos (suc n)) e = refl
sign_left (negsuc n) e = absurd (subst T (sym e) tt)

pub sign_right : (z : ℤ) → lt_z (sign z) (pos 0) ≡ true → sign z ≡ negsuc 0
sign_right (pos zero) e = absurd (subst T (sym e) tt)
sign_right (pos (suc n)) e = absurd (subst T (sym e) tt)
sign_right (negsuc n) e = refl

pub sign_none : (z : ℤ) → lt_z (pos 0) (sign z) ≡ false → lt_z (sign z) (pos 0) ≡ false → sign z ≡ pos 0
sign_none (pos zero) e f = refl
sign_none (pos (suc n)) e f = absurd (subst T e tt)
sign_none (negsuc n) e f = absurd (subst T f tt)

-- only 0 has the sign 0
pub sign_zero : (z : ℤ) → eq_z z (pos 0) ≡ eq_z (sign z) (pos 0)
sign_zero (pos zero) = refl
sign_zero (pos (suc n)) = ne_eqb (suc n) 0 (λ h. omega arith)
sign_zero (negsuc n) = refl
