-- Numbers of a width as the code computes them.
use mathlib.Core.Path.{◌≡◌, sym, ◌∙◌, subst}
use Prim.Native.Nat.{ℕ, suc, ◌-◌, ◌*◌, ◌%◌, ◌^◌, ◌≤◌, ◌<◌}
use native.Mathlib.Omega.{arith}
use lib.Pow.{pow_mono}
use lib.IntN.{ℤ, negsuc, ◌-ℤ◌}
use mir.Syntax.{w64}
use mir.Val.{SFits, to_z, of_z}
use mir.Facts.{to_z-of_z}
use borrow.Author.Rules.{sfits_of}
use Rattle.std.proofs.lemmas.Nat.{one_shl}
use Rattle.std.proofs.lemmas.Int.{ints}
use Rattle.bits.specs.Signs.{signed}
use Rattle.bits.proofs.SignLaws.{halves, signed_high}

-- n in w bits, from the half of their values on
module _ (w n : ℕ) (some : 0 < w) (within_32 : w ≤ 32) (below : n < 2 ^ w) (high : 1 * 2 ^ (w - 1) % 2 ^ 64 ≤ n) where
  abbrev computed : ℤ
  computed = to_z w64 n -ℤ to_z w64 (2 * (1 * 2 ^ (w - 1) % 2 ^ 64))

  small : 2 ^ w ≤ 4294967296
  small = pow_mono {i = w} {j = 32} within_32

  half_is : 1 * 2 ^ (w - 1) % 2 ^ 64 ≡ 2 ^ (w - 1)
  half_is = one_shl (w - 1) 64 (omega arith)

  high_is : computed ≡ negsuc (2 ^ w - suc n)
  high_is = omega (arith, ints, halves w some, small, half_is)

  pub high_read : to_z w64 (of_z w64 computed) ≡ signed w n
  high_read =
      let f : SFits w64 computed = subst (SFits w64) (sym high_is) (sfits_of (omega (arith, small))) in
      to_z-of_z f ∙ high_is ∙ sym (signed_high w some n (omega (arith, half_is)))
