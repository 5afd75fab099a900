-- Expressions over integers, each the difference of two natural expressions, over which `omega` works.
use Rattle.std.specs.Prelude.{ℕ, suc, ◌+◌, ◌*◌, ℤ, pos, negsuc, neg_ℤ, ◌+ℤ◌, ◌-ℤ◌, ◌*ℤ◌}

-- an integer is what it has above zero less what it has below
unfoldable pub above : ℤ → ℕ
above (pos n) = n
above (negsuc n) = 0

unfoldable pub below : ℤ → ℕ
below (pos n) = 0
below (negsuc n) = suc n

-- sums, differences and products of integers (`at`) and natural numbers (`num`)
infixl 6 ◌:+◌ ◌:-◌
infixl 7 ◌:*◌
pub data Ex : Type 0 where
  at : ℤ → Ex
  num : ℕ → Ex
  ◌:+◌ : Ex → Ex → Ex
  ◌:-◌ : Ex → Ex → Ex
  ◌:*◌ : Ex → Ex → Ex
  :neg : Ex → Ex

-- the integer that an expression stands for
abbrev pub value : Ex → ℤ
value (at z) = z
value (num n) = pos n
value (e :+ f) = value e +ℤ value f
value (e :- f) = value e -ℤ value f
value (e :* f) = value e *ℤ value f
value (:neg e) = neg_ℤ (value e)

-- its two natural parts: the value is `up` less `dn`
abbrev mutual
  pub up : Ex → ℕ
  up (at z) = above z
  up (num n) = n
  up (e :+ f) = up e + up f
  up (e :- f) = up e + dn f
  up (e :* f) = up e * up f + dn e * dn f
  up (:neg e) = dn e

  pub dn : Ex → ℕ
  dn (at z) = below z
  dn (num n) = 0
  dn (e :+ f) = dn e + dn f
  dn (e :- f) = dn e + up f
  dn (e :* f) = up e * dn f + dn e * up f
  dn (:neg e) = up e
