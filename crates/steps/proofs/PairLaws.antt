-- The differences of a point, raised and turned, have the bits that they are written in.
use mathlib.Core.Path.{◌≡◌, refl, sym, ◌∙◌, ap, ap₂}
use mathlib.Core.Bool.{true}
use mathlib.Core.List.{List, [], ◌∷◌}
use Prim.Native.Nat.{ℕ, suc, ◌+◌, ◌-◌, ◌*◌, ◌%◌, ◌^◌, ◌<◌}
use native.Mathlib.Nat.{lt_of_lt_of_le}
use native.Mathlib.Omega.{arith}
use lib.Bits.{bit_xor, xor_block, xor_self, xor_zero_l, xor_zero_r}
use lib.ListN.{get_or}
use lib.Pow.{pow_pos, pow_mono, shl_exact}
use lib.IntN.{ℤ, pos, negsuc, nat_abs, ◌+ℤ◌, ◌-ℤ◌, ◌*ℤ◌}
use mir.Syntax.{w64}
use mir.Val.{SFits, to_z, of_z}
use borrow.Author.Tests.{ltb-true, le-ltb}
use Rattle.integers.specs.Bound.{In}
use Rattle.integers.specs.Polynomial.{#, ◌:+◌, ◌:-◌, ◌:*◌}
use Rattle.integers.proofs.Bound.{in_add, in_mul, in_pos, in_more, in_eq, in_fits, back, back_in}
use Rattle.integers.proofs.Polynomial.{ring}
use Rattle.integers.proofs.Ring.{⊖-add, ⊖-pos, ⊖-negsuc, ⊖-eq}
use Rattle.bits.specs.Signs.{unsigned, fits}
use Rattle.bits.proofs.SignLaws.{halves}
use Rattle.grid.specs.Limits.{limit, all_on_grid}
use Rattle.grid.proofs.LimitLaws.{on_grid_in, all_on_grid_at}
use Rattle.steps.specs.inside.Asked.{step, Narrow, Rising, joined, point_bits}
use Rattle.steps.proofs.WriteLaws.{side_by_side}

-- a number raised by half of the values of a width
abbrev lifted : ℕ → ℤ → ℕ
lifted w (pos n) = n + 2 ^ (w - 1)
lifted w (negsuc n) = 2 ^ (w - 1) - suc n

module _ (w : ℕ) (some : 0 < w) where
  lifted_is : (z : ℤ) → fits w z ≡ true → pos (lifted w z) ≡ z +ℤ pos (2 ^ (w - 1))
  lifted_is (pos n) e = refl
  lifted_is (negsuc n) e =
      let h : ℕ = 2 ^ (w - 1) in
      let l : n < h = ltb-true n h e in
      ⊖-pos (h - suc n) ∙ ⊖-eq (h - suc n) 0 (0 + h) (suc n + 0) (omega arith) ∙ sym (⊖-add 0 (suc n) h 0) ∙ sym (ap₂ ◌+ℤ◌ (⊖-negsuc n) (⊖-pos h))

  lifted_below : (z : ℤ) → fits w z ≡ true → lifted w z < 2 ^ w
  lifted_below (pos n) e = let l : n < 2 ^ (w - 1) = ltb-true n (2 ^ (w - 1)) e in omega (arith, l, halves w some)
  lifted_below (negsuc n) e = omega (arith, halves w some, pow_pos (w - 1))

  -- its first bit turned
  turned_is : (z : ℤ) → fits w z ≡ true → bit_xor (lifted w z) (2 ^ (w - 1)) ≡ unsigned w z
  turned_is (pos n) e =
      let h : ℕ = 2 ^ (w - 1) in
      let l : n < h = ltb-true n h e in
      let a : n + h ≡ 1 * h + n = omega arith in
      let b : h ≡ 1 * h + 0 = omega arith in
      ap₂ bit_xor a b ∙ xor_block (w - 1) 1 1 n 0 l (pow_pos (w - 1)) ∙ ap₂ (λ (x y : ℕ). x * h + y) (xor_self 1) (xor_zero_r n) ∙ omega arith
  turned_is (negsuc n) e =
      let h : ℕ = 2 ^ (w - 1) in
      let l : n < h = ltb-true n h e in
      let a : h - suc n ≡ 0 * h + (h - suc n) = omega arith in
      let b : h ≡ 1 * h + 0 = omega arith in
      ap₂ bit_xor a b ∙ xor_block (w - 1) 0 1 (h - suc n) 0 (omega arith) (pow_pos (w - 1)) ∙ ap₂ (λ (x y : ℕ). x * h + y) (xor_zero_l 1) (xor_zero_r (h - suc n))
      ∙ omega (arith, halves w some)

-- what the difference of two points is raised by
abbrev pub middle : ℕ → ℕ
middle w = 2 ^ (w - 1) * 2 ^ w + 2 ^ (w - 1)

half_below : (w : ℕ) → 0 < w → 2 ^ (w - 1) < 2 ^ w
half_below w some = omega (arith, halves w some, pow_pos (w - 1))

pub middle_below : (w : ℕ) → 0 < w → middle w < 2 ^ (2 * w)
middle_below w some =
    let e : 2 * w ≡ w + w = omega arith in
    rw e (side_by_side w w (2 ^ (w - 1)) (2 ^ (w - 1)) (half_below w some) (half_below w some))

pub middle_few : (w : ℕ) → Narrow w → middle w < 2 ^ 31
middle_few w n = omega (arith, middle_below w n.some, pow_mono {i = 2 * w} {j = 30} (omega (arith, n.few)))

-- points as numbers
module _ (c : List ℤ) (on : all_on_grid limit c ≡ true) where
  pub in_grid : (i : ℕ) → In limit (get_or c i (pos 0))
  in_grid i = on_grid_in limit (get_or c i (pos 0)) (all_on_grid_at limit c i on)

  pub joined_in : (s : ℤ) → In 32768 s → (k : ℕ) → In (limit * 32768 + limit) (joined s c k)
  joined_in s small k = in_add (in_mul (in_grid k) small) (in_grid (k + 1))

pub scale_in : (w : ℕ) → Narrow w → In 32768 (pos (2 ^ w))
scale_in w n = in_pos (pow_mono {i = w} {j = 15} n.few)

-- both differences behind position k
module _ (c : List ℤ) (w k : ℕ) (n : Narrow w) (x : fits w (step c k) ≡ true) (y : fits w (step c (k + 1)) ≡ true) where
  abbrev s : ℤ
  s = pos (2 ^ w)

  abbrev pub up : ℕ
  up = lifted w (step c k) * 2 ^ w + lifted w (step c (k + 1))

  apart : joined s c (k + 2) -ℤ joined s c k ≡ step c k *ℤ s +ℤ step c (k + 1)
  apart =
      let e : k + 2 + 1 ≡ k + 1 + 2 = omega arith in
      ring (# 0 :* # 4 :+ # 1 :- (# 2 :* # 4 :+ # 3)) ((# 0 :- # 2) :* # 4 :+ (# 1 :- # 3))
      (get_or c (k + 2) (pos 0) ∷ get_or c (k + 2 + 1) (pos 0) ∷ get_or c k (pos 0) ∷ get_or c (k + 1) (pos 0) ∷ s ∷ []) refl
      ∙ ap (λ (i : ℕ). step c k *ℤ s +ℤ (get_or c i (pos 0) -ℤ get_or c (k + 1) (pos 0))) e

  pub up_is : (joined s c (k + 2) -ℤ joined s c k) +ℤ pos (middle w) ≡ pos up
  up_is =
      let h : ℤ = pos (2 ^ (w - 1)) in
      ap (λ (z : ℤ). z +ℤ pos (middle w)) apart
      ∙ ring (# 0 :* # 1 :+ # 2 :+ (# 3 :* # 1 :+ # 3)) ((# 0 :+ # 3) :* # 1 :+ (# 2 :+ # 3)) (step c k ∷ s ∷ step c (k + 1) ∷ h ∷ []) refl
      ∙ sym (ap₂ (λ (a b : ℤ). a *ℤ s +ℤ b) (lifted_is w n.some (step c k) x) (lifted_is w n.some (step c (k + 1)) y))

  pub up_below : up < 2 ^ (2 * w)
  up_below =
      let e : 2 * w ≡ w + w = omega arith in
      rw e (side_by_side w w (lifted w (step c k)) (lifted w (step c (k + 1))) (lifted_below w n.some (step c k) x) (lifted_below w n.some (step c (k + 1)) y))

  pub up_turned : bit_xor up (middle w) ≡ point_bits w c k
  up_turned =
      xor_block w (lifted w (step c k)) (2 ^ (w - 1)) (lifted w (step c (k + 1))) (2 ^ (w - 1)) (lifted_below w n.some (step c (k + 1)) y) (half_below w n.some)
      ∙ ap₂ (λ (a b : ℕ). a * 2 ^ w + b) (turned_is w n.some (step c k) x) (turned_is w n.some (step c (k + 1)) y)

  pub rising : all_on_grid limit c ≡ true → (from to : ℤ) → from ≡ joined s c k → to ≡ joined s c (k + 2) → (h : ℕ) → h ≡ middle w → Rising from to h
  unfolding limit
  rising on from to f t h m = record {
    near = in_more tt (in_eq f (joined_in c on s (scale_in w n) k));
    near_too = in_more tt (in_eq t (joined_in c on s (scale_in w n) (k + 2)));
    few = rw m (middle_few w n);
    up = rw (f, t, m, up_is) (le-ltb up 0 (omega arith));
  }

  pub raised_is : (from to : ℤ) → from ≡ joined s c k → to ≡ joined s c (k + 2) → (h r : ℕ) → h ≡ middle w → pos r ≡ (to -ℤ from) +ℤ pos h → r ≡ up
  raised_is from to f t h r m e = ap nat_abs (e ∙ ap₂ (λ (a b : ℤ). (a -ℤ b) +ℤ pos h) t f ∙ ap (λ (i : ℕ). (joined s c (k + 2) -ℤ joined s c k) +ℤ pos i) m ∙ up_is)

-- two numbers of a point each, in a word
module _ (w : ℕ) (n : Narrow w) (a b : ℕ) (first : a < 2 ^ (2 * w)) (second : b < 2 ^ (2 * w)) where
  pub word_is : a * 2 ^ (2 * w) % 2 ^ 64 ≡ a * 2 ^ (2 * w)
  word_is = shl_exact (2 * w) (2 * w) 64 first (omega (arith, n.few))

  pub word_fits : a * 2 ^ (2 * w) % 2 ^ 64 + b < 2 ^ 64
  word_fits = rw word_is (lt_of_lt_of_le (side_by_side (2 * w) (2 * w) a b first second) (pow_mono {j = 64} (omega (arith, n.few))))

  pub word_turned : bit_xor (a * 2 ^ (2 * w) % 2 ^ 64 + b) (middle w * 2 ^ (2 * w) % 2 ^ 64 + middle w) ≡ bit_xor a (middle w) * 2 ^ (2 * w) + bit_xor b (middle w)
  word_turned =
      let m : middle w < 2 ^ (2 * w) = middle_below w n.some in
      ap₂ (λ (x y : ℕ). bit_xor (x + b) (y + middle w)) word_is (shl_exact (2 * w) (2 * w) 64 m (omega (arith, n.few)))
      ∙ xor_block (2 * w) a (middle w) b (middle w) second m

module _ (x y s a b : ℤ) (x_in : In limit x) (y-in : In limit y) (s-in : In 32768 s) (e : a ≡ x) (f : b ≡ y) where
  product_in : In (limit * 32768) (to_z w64 (of_z w64 a) *ℤ to_z w64 (of_z w64 s))
  unfolding limit
  product_in = in_mul (back_in w64 (in_eq e x_in) tt) (back_in w64 s-in tt)

  joined_sum_in : In (limit * 32768 + limit) (to_z w64 (of_z w64 (to_z w64 (of_z w64 a) *ℤ to_z w64 (of_z w64 s))) +ℤ to_z w64 (of_z w64 b))
  unfolding limit
  joined_sum_in = in_add (back_in w64 product_in tt) (back_in w64 (in_eq f y-in) tt)

  pub product_fits : SFits w64 (to_z w64 (of_z w64 a) *ℤ to_z w64 (of_z w64 s))
  unfolding limit
  product_fits = in_fits product_in tt

  pub joined_fits : SFits w64 (to_z w64 (of_z w64 (to_z w64 (of_z w64 a) *ℤ to_z w64 (of_z w64 s))) +ℤ to_z w64 (of_z w64 b))
  unfolding limit
  joined_fits = in_fits joined_sum_in tt

  pub joined_is : to_z w64 (of_z w64 (to_z w64 (of_z w64 (to_z w64 (of_z w64 a) *ℤ to_z w64 (of_z w64 s))) +ℤ to_z w64 (of_z w64 b))) ≡ x *ℤ s +ℤ y
  unfolding limit
  joined_is =
      back w64 joined_sum_in tt
      ∙ ap₂ ◌+ℤ◌ (back w64 product_in tt ∙ ap₂ ◌*ℤ◌ (back w64 (in_eq e x_in) tt ∙ e) (back w64 s-in tt)) (back w64 (in_eq f y-in) tt ∙ f)
