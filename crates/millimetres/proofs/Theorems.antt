-- What a caller may count on, said of a finite float's exact value, m · up e / down e, in whole numbers.
use Rattle.std.proofs.Common.{◌≡◌, ℕ, suc, ◌+◌, ◌*◌, ◌^◌, ◌<◌, ◌≤◌, Bool, true, false, not, ℤ, pos, negsuc, nat_abs, refl, ap, ◌∙◌, mul_comm, zero-mul, arith, w32, le-leb}
use lib.Signed.{mag, non_neg}
use lib.Ieee.{Float, nan, inf, fin, up, down}
use lib.Ieee.Fits.{down_pos}
use lib.Ieee.Exact.{HasValue}
use Rattle.integers.specs.Bound.{In}
use Rattle.integers.proofs.Bound.{in_fits}
use Rattle.grid.specs.Limits.{narrow}
use Rattle.millimetres.specs.Scale.{scale, near, finite, size, signed, units, on_grid, millimetres}
use Rattle.millimetres.proofs.RoundLaws.{near_is, near_only, near_half, near_whole}
use Rattle.millimetres.proofs.ExactLaws.{exact_from_zero, exact_below_zero}

-- A float in units.
module _ (s : Bool) (m : ℕ) (e : ℤ) where
  pub the_units_have_the_float's_sign : units (fin s m e) ≡ signed s (size (fin s m e))
  unfolding units size
  the_units_have_the_float's_sign = refl

  pub never_more_than_half_a_unit_off :
      (2 * (size (fin s m e) * down e) ≤ 2 * (scale * (m * up e)) + down e) × (2 * (scale * (m * up e)) ≤ 2 * (size (fin s m e) * down e) + down e)
  unfolding size
  never_more_than_half_a_unit_off =
      let h = near_is (scale * (m * up e)) (down e) (down_pos e) in
      (h.0, omega (arith, h.1))

  pub halves_go_away_from_zero : (n : ℕ) → 2 * (scale * (m * up e)) ≡ 2 * (n * down e) + down e → size (fin s m e) ≡ suc n
  unfolding size
  halves_go_away_from_zero n h = near_half (scale * (m * up e)) (down e) n (down_pos e) h

  pub no_other_number_is_as_near : (n : ℕ) → 2 * (n * down e) < 2 * (scale * (m * up e)) + down e → 2 * (scale * (m * up e)) < 2 * (n * down e) + down e
      → size (fin s m e) ≡ n
  unfolding size
  no_other_number_is_as_near n lo hi = near_only (scale * (m * up e)) (down e) n (down_pos e) (omega arith) hi

  pub less_than_half_a_unit_is_nought : 2 * (scale * (m * up e)) < down e → units (fin s m e) ≡ pos 0
  less_than_half_a_unit_is_nought h =
      the_units_have_the_float's_sign ∙ ap (signed s) (no_other_number_is_as_near 0 (omega (arith, zero-mul (down e))) (omega (arith, zero-mul (down e)))) ∙ no_sign s
    where
      no_sign : (t : Bool) → signed t 0 ≡ pos 0
      no_sign true = refl
      no_sign false = refl

-- Units in millimetres: the float is x / 1,024, neither more nor less, with the sign of x.
pub nothing_is_lost : (x : ℤ) → mag x < 2 ^ 31 → HasValue (millimetres x) (not (non_neg x)) (nat_abs x) scale
nothing_is_lost (pos n) h = exact_from_zero n h
nothing_is_lost (negsuc n) h = exact_below_zero n h

-- And in again.
again : (y : Float) (s : Bool) (n : ℕ) → n ≤ narrow → HasValue y s n scale → (on_grid y ≡ true) × (units y ≡ signed s n)
unfolding on_grid finite size units
again nan s n h v = absurd v
again (inf t) s n h v = absurd v
again (fin t m e) s n h v =
    let q : size (fin t m e) ≡ n = ap (λ (x : ℕ). near x (down e)) (mul_comm scale (m * up e) ∙ v.1) ∙ near_whole n (down e) (down_pos e) in
    (rw q (le-leb n narrow h), rw q (ap (λ (b : Bool). signed b n) v.0))

pub in_undoes_out : (x : ℤ) → In narrow x → (on_grid (millimetres x) ≡ true) × (units (millimetres x) ≡ x)
unfolding narrow
in_undoes_out x h =
    let i = again (millimetres x) (not (non_neg x)) (nat_abs x) h.abs (nothing_is_lost x (in_fits {w = w32} h tt).sfits) in
    (i.0, i.1 ∙ itself x)
  where
    itself : (y : ℤ) → signed (not (non_neg y)) (nat_abs y) ≡ y
    itself (pos n) = refl
    itself (negsuc n) = refl
