-- Whether a width is the smallest.
use mathlib.Core.Path.{◌≡◌, refl, sym, ◌∙◌, subst}
use mathlib.Core.Bool.{Bool, true, false, not, ◌||◌}
use mathlib.Core.List.{List, []}
use Prim.Native.Nat.{ℕ, ◌-◌, ◌<◌, ◌≤◌}
use native.Mathlib.Decide.{dec_le}
use native.Mathlib.Omega.{arith}
use lib.Dec.{T, eqb, ltb}
use lib.IntN.{ℤ}
use borrow.Author.Tests.{ltb-true, eqb-true, eq-eqb, ne_eqb}
use Rattle.bits.specs.Signs.{all_fit}
use Rattle.bits.specs.Widths.{smallest, width_of}
use Rattle.bits.proofs.SignLaws.{all_fit_wider}
use Rattle.bits.proofs.WidthLaws.{width_at_most, width_fits}
use Rattle.steps.proofs.BodyLaws.{width_some, width_within_32}

pub width_of_none : width_of [] ≡ 1
unfolding smallest all_fit
width_of_none = refl

-- a width that no number has is not the smallest
pub no_width : (l : List ℤ) (w : ℕ) → (eqb w 0 || ltb 32 w) ≡ true → eqb w (width_of l) ≡ false
no_width l w e = ne_eqb w (width_of l) (by (eqb w 0) refl)
  where
    by : (b : Bool) → eqb w 0 ≡ b → w ≡ width_of l → ⊥
    by true f q = omega (arith, eqb-true w 0 f, width_some l)
    by false f q = omega (arith, ltb-true 32 w (rw f at e), width_within_32 l)

-- a width that all fit is the smallest exactly if one does not fit one bit less
pub smallest_if : (l : List ℤ) (w : ℕ) → 1 < w → w ≤ 32 → all_fit w l ≡ true → not (all_fit (w - 1) l) ≡ eqb w (width_of l)
smallest_if l w h s e = go (all_fit (w - 1) l) refl
  where
    go : (b : Bool) → all_fit (w - 1) l ≡ b → not (all_fit (w - 1) l) ≡ eqb w (width_of l)
    go true f = rw f (sym (ne_eqb w (width_of l) (λ q. omega (arith, width_at_most l (w - 1) (omega arith) f))))
    go false f = rw f (sym (eq-eqb w (width_of l) (same (dec_le (width_of l) (w - 1)))))
      where
        same : Dec (width_of l ≤ w - 1) → w ≡ width_of l
        same (yes d) = let c : true ≡ false = sym (width_fits l (w - 1) (all_fit_wider l w 32 s e) d) ∙ f in absurd (subst T c tt)
        same (no d) = omega (arith, width_at_most l w (omega arith) e)
