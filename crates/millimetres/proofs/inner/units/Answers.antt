-- `millimetres::inner::units` meets its contract: the size is rounded, and the sign put before it.
use Rattle.std.proofs.Common.{◌≡◌, ℕ, zero, suc, ◌<◌, ◌≤◌, true, false, ℤ, pos, ◌-ℤ◌, neg_ℤ, sym, ap, ◌∙◌, subst, arith, to_z-of_z, w32, SFits, to_z}
use borrow.Author.Rules.{sfits_of}
use lib.IntN.{+ℤ_idl}
use lib.Signed.{mag}
use lib.Ieee.{Float, binary64, lt, neg, of_bits}
use mir.Facts.{to_z_pos}
use Rattle.grid.specs.Limits.{narrow}
use Rattle.millimetres.specs.Scale.{signed, on_grid}
use Rattle.millimetres.proofs.UnitLaws.{Handed, below-zero, from_zero}
use Rattle.millimetres.proofs.inner.units.Goals as goal

-- v on either side of 0
module _ (v : Float) (on : on_grid v ≡ true) where
  below : lt v (of_bits binary64 0) ≡ true → Handed v (neg v) true
  unfolding of_bits
  below b = below-zero v on b

  rest : lt v (of_bits binary64 0) ≡ false → Handed v v false
  unfolding of_bits
  rest b = from_zero v on b

-- a number of steps is an i32, and so is the number below 0
module _ (n : ℕ) (h : n ≤ narrow) where
  few : n < 2147483648
  unfolding narrow
  few = omega arith

  steps_fit : SFits w32 (pos n)
  steps_fit = sfits_of few

  steps_are : to_z w32 n ≡ pos n
  steps_are = to_z_pos w32 few

  minus_is : pos 0 -ℤ to_z w32 n ≡ neg_ℤ (pos n)
  minus_is = ap (λ (z : ℤ). pos 0 -ℤ z) steps_are ∙ +ℤ_idl (neg_ℤ (pos n))

  minus_fits : SFits w32 (pos 0 -ℤ to_z w32 n)
  minus_fits = subst (SFits w32) (sym minus_is) (sfits_of (go n few))
    where
      go : (m : ℕ) → m < 2147483648 → mag (neg_ℤ (pos m)) < 2147483648
      go zero l = omega arith
      go (suc m) l = omega arith

few_below : (c : goal.After-steps) → c.steps.result ≤ narrow
few_below c = omega (arith, c.steps.ensures, (below _ c.requires c.if-v.true).few)

few_rest : (c : goal.After-steps-else-v) → c.steps-else-v.result ≤ narrow
few_rest c = omega (arith, c.steps-else-v.ensures, (rest _ c.requires c.if-v.false).few)

pub steps-requires : goal.steps-requires
steps-requires c = (below _ c.requires c.if-v.true).small

pub overflow_cast-result : goal.overflow_cast-result
overflow_cast-result c = steps_fit _ (few_below c)

pub overflow_sub-result : goal.overflow_sub-result
overflow_sub-result c = minus_fits _ (few_below c)

pub steps-requires-else-v : goal.steps-requires-else-v
steps-requires-else-v c = (rest _ c.requires c.if-v.false).small

pub overflow_cast-result-else-v : goal.overflow_cast-result-else-v
overflow_cast-result-else-v c = steps_fit _ (few_rest c)

pub returns-then-v : goal.returns-then-v
returns-then-v c = to_z-of_z (minus_fits _ (few_below c)) ∙ minus_is _ (few_below c) ∙ ap (signed true) c.steps.ensures ∙ (below _ c.requires c.if-v.true).is

pub returns-else-v : goal.returns-else-v
returns-else-v c = steps_are _ (few_rest c) ∙ ap pos c.steps-else-v.ensures ∙ (rest _ c.requires c.if-v.false).is
