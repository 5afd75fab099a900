-- The ring laws of ℤ that the kit lacks, and integers as differences of natural numbers.
use mathlib.Core.Path.{◌≡◌, sym, ◌∙◌, ap}
use Prim.Native.Nat.{ℕ, zero, suc, ◌+◌, ◌*◌}
use lib.IntN.{ℤ, pos, negsuc, neg_ℤ, pred_ℤ, ◌+ℤ◌, ◌-ℤ◌, ◌*ℤ◌, +ℤ_assoc, +ℤ_comm, +ℤ_idl, +ℤ_idr, +ℤ_invr, +ℤ_invl, suc_ℤ-+ℤ, pred_ℤ-+ℤ, suc_ℤ-*ℤ, pred_ℤ-*ℤ, zero-*ℤ, *ℤ_comm, neg_ℤ-+ℤ, neg_ℤ-neg_ℤ}

pub +ℤ_left_comm : (a b c : ℤ) → a +ℤ (b +ℤ c) ≡ b +ℤ (a +ℤ c)
+ℤ_left_comm a b c = sym (+ℤ_assoc a b c) ∙ ap (λ (x : ℤ). x +ℤ c) (+ℤ_comm a b) ∙ +ℤ_assoc b a c

ruleset Ac = (+ℤ_assoc, +ℤ_comm, +ℤ_left_comm)

swap_last : (a b c : ℤ) → (a +ℤ b) +ℤ c ≡ (a +ℤ c) +ℤ b
swap_last a b c = simp Ac

pub *ℤ_distribr : (a b c : ℤ) → (a +ℤ b) *ℤ c ≡ a *ℤ c +ℤ b *ℤ c
*ℤ_distribr (pos zero) b c = ap (λ (x : ℤ). x *ℤ c) (+ℤ_idl b) ∙ sym (ap (λ (x : ℤ). x +ℤ b *ℤ c) (zero-*ℤ c) ∙ +ℤ_idl (b *ℤ c))
*ℤ_distribr (pos (suc n)) b c =
    ap (λ (x : ℤ). x *ℤ c) (suc_ℤ-+ℤ (pos n) b) ∙ suc_ℤ-*ℤ (pos n +ℤ b) c ∙ ap (λ (x : ℤ). x +ℤ c) (*ℤ_distribr (pos n) b c) ∙ swap_last (pos n *ℤ c) (b *ℤ c) c ∙ ap (λ (x : ℤ). x +ℤ b *ℤ c) (sym (suc_ℤ-*ℤ (pos n) c))
*ℤ_distribr (negsuc zero) b c =
    ap (λ (x : ℤ). x *ℤ c) (pred_ℤ-+ℤ (pos zero) b ∙ ap pred_ℤ (+ℤ_idl b)) ∙ pred_ℤ-*ℤ b c ∙ +ℤ_comm (b *ℤ c) (neg_ℤ c) ∙ ap (λ (x : ℤ). x +ℤ b *ℤ c) (sym (pred_ℤ-*ℤ (pos zero) c ∙ ap (λ (x : ℤ). x -ℤ c) (zero-*ℤ c) ∙ +ℤ_idl (neg_ℤ c)))
*ℤ_distribr (negsuc (suc n)) b c =
    ap (λ (x : ℤ). x *ℤ c) (pred_ℤ-+ℤ (negsuc n) b) ∙ pred_ℤ-*ℤ (negsuc n +ℤ b) c ∙ ap (λ (x : ℤ). x -ℤ c) (*ℤ_distribr (negsuc n) b c) ∙ swap_last (negsuc n *ℤ c) (b *ℤ c) (neg_ℤ c) ∙ ap (λ (x : ℤ). x +ℤ b *ℤ c) (sym (pred_ℤ-*ℤ (negsuc n) c))

pub *ℤ_distribl : (a b c : ℤ) → a *ℤ (b +ℤ c) ≡ a *ℤ b +ℤ a *ℤ c
*ℤ_distribl a b c = *ℤ_comm a (b +ℤ c) ∙ *ℤ_distribr b c a ∙ ap (λ (x : ℤ). x +ℤ c *ℤ a) (*ℤ_comm b a) ∙ ap (λ (x : ℤ). a *ℤ b +ℤ x) (*ℤ_comm c a)

pub neg-*ℤ : (a b : ℤ) → neg_ℤ a *ℤ b ≡ neg_ℤ (a *ℤ b)
neg-*ℤ a b = sym (cancel (a *ℤ b) (neg_ℤ a *ℤ b) (sym (*ℤ_distribr a (neg_ℤ a) b) ∙ ap (λ (x : ℤ). x *ℤ b) (+ℤ_invr a) ∙ zero-*ℤ b))
  where
    cancel : (x y : ℤ) → x +ℤ y ≡ pos zero → neg_ℤ x ≡ y
    cancel x y h = sym (+ℤ_idr (neg_ℤ x)) ∙ ap (λ (z : ℤ). neg_ℤ x +ℤ z) (sym h) ∙ sym (+ℤ_assoc (neg_ℤ x) x y) ∙ ap (λ (z : ℤ). z +ℤ y) (+ℤ_invl x) ∙ +ℤ_idl y

pub *ℤ_neg : (a b : ℤ) → a *ℤ neg_ℤ b ≡ neg_ℤ (a *ℤ b)
*ℤ_neg a b = *ℤ_comm a (neg_ℤ b) ∙ neg-*ℤ b a ∙ ap neg_ℤ (*ℤ_comm b a)

pub *ℤ_assoc : (a b c : ℤ) → (a *ℤ b) *ℤ c ≡ a *ℤ (b *ℤ c)
*ℤ_assoc (pos zero) b c = ap (λ (x : ℤ). x *ℤ c) (zero-*ℤ b) ∙ zero-*ℤ c ∙ sym (zero-*ℤ (b *ℤ c))
*ℤ_assoc (pos (suc n)) b c = ap (λ (x : ℤ). x *ℤ c) (suc_ℤ-*ℤ (pos n) b) ∙ *ℤ_distribr (pos n *ℤ b) b c ∙ ap (λ (x : ℤ). x +ℤ b *ℤ c) (*ℤ_assoc (pos n) b c) ∙ sym (suc_ℤ-*ℤ (pos n) (b *ℤ c))
*ℤ_assoc (negsuc zero) b c = ap (λ (x : ℤ). x *ℤ c) (minus_one b) ∙ neg-*ℤ b c ∙ sym (minus_one (b *ℤ c))
  where
    minus_one : (x : ℤ) → negsuc zero *ℤ x ≡ neg_ℤ x
    minus_one x = pred_ℤ-*ℤ (pos zero) x ∙ ap (λ (y : ℤ). y -ℤ x) (zero-*ℤ x) ∙ +ℤ_idl (neg_ℤ x)
*ℤ_assoc (negsuc (suc n)) b c = ap (λ (x : ℤ). x *ℤ c) (pred_ℤ-*ℤ (negsuc n) b) ∙ *ℤ_distribr (negsuc n *ℤ b) (neg_ℤ b) c ∙ ap (λ (x : ℤ). x +ℤ neg_ℤ b *ℤ c) (*ℤ_assoc (negsuc n) b c) ∙ ap (λ (x : ℤ). negsuc n *ℤ (b *ℤ c) +ℤ x) (neg-*ℤ b c) ∙ sym (pred_ℤ-*ℤ (negsuc n) (b *ℤ c))

-- the integer a - b
infixl 6 ◌⊖◌
pub ◌⊖◌ : ℕ → ℕ → ℤ
a ⊖ b = pos a +ℤ neg_ℤ (pos b)

four : (x y z w : ℤ) → (x +ℤ y) +ℤ (z +ℤ w) ≡ (x +ℤ z) +ℤ (y +ℤ w)
four x y z w = simp Ac

pub ⊖-add : (a b c d : ℕ) → (a ⊖ b) +ℤ (c ⊖ d) ≡ (a + c) ⊖ (b + d)
unfolding ◌⊖◌
⊖-add a b c d = four (pos a) (neg_ℤ (pos b)) (pos c) (neg_ℤ (pos d)) ∙ ap (λ (x : ℤ). pos (a + c) +ℤ x) (sym (neg_ℤ-+ℤ (pos b) (pos d)))

pub ⊖-neg : (a b : ℕ) → neg_ℤ (a ⊖ b) ≡ b ⊖ a
unfolding ◌⊖◌
⊖-neg a b = neg_ℤ-+ℤ (pos a) (neg_ℤ (pos b)) ∙ ap (λ (x : ℤ). neg_ℤ (pos a) +ℤ x) (neg_ℤ-neg_ℤ (pos b)) ∙ +ℤ_comm (neg_ℤ (pos a)) (pos b)

pub ⊖-pos : (n : ℕ) → pos n ≡ n ⊖ 0
unfolding ◌⊖◌
⊖-pos n = sym (+ℤ_idr (pos n))

pub ⊖-mul : (a b c d : ℕ) → (a ⊖ b) *ℤ (c ⊖ d) ≡ (a * c + b * d) ⊖ (a * d + b * c)
unfolding ◌⊖◌
⊖-mul a b c d =
    *ℤ_distribr (pos a) (neg_ℤ (pos b)) (pos c +ℤ neg_ℤ (pos d))
    ∙ ap (λ (x : ℤ). x +ℤ neg_ℤ (pos b) *ℤ (pos c +ℤ neg_ℤ (pos d))) (*ℤ_distribl (pos a) (pos c) (neg_ℤ (pos d)) ∙ ap (λ (x : ℤ). pos (a * c) +ℤ x) (*ℤ_neg (pos a) (pos d)))
    ∙ ap (λ (x : ℤ). (pos (a * c) +ℤ neg_ℤ (pos (a * d))) +ℤ x) (neg-*ℤ (pos b) (pos c +ℤ neg_ℤ (pos d)) ∙ ap neg_ℤ (*ℤ_distribl (pos b) (pos c) (neg_ℤ (pos d)) ∙ ap (λ (x : ℤ). pos (b * c) +ℤ x) (*ℤ_neg (pos b) (pos d))))
    ∙ ap (λ (x : ℤ). (pos (a * c) +ℤ neg_ℤ (pos (a * d))) +ℤ x) (⊖-neg (b * c) (b * d))
    ∙ ⊖-add (a * c) (a * d) (b * d) (b * c)

-- differences of equal sums are equal
pub ⊖-eq : (a b c d : ℕ) → a + d ≡ c + b → a ⊖ b ≡ c ⊖ d
unfolding ◌⊖◌
⊖-eq a b c d h = move (pos a) (pos b) (pos c) (pos d) (ap pos h)
  where
    move : (x y z w : ℤ) → x +ℤ w ≡ z +ℤ y → x +ℤ neg_ℤ y ≡ z +ℤ neg_ℤ w
    move x y z w e =
        sym (+ℤ_idr (x +ℤ neg_ℤ y)) ∙ ap (λ (t : ℤ). (x +ℤ neg_ℤ y) +ℤ t) (sym (+ℤ_invr w)) ∙ four x (neg_ℤ y) w (neg_ℤ w) ∙ ap (λ (t : ℤ). t +ℤ (neg_ℤ y +ℤ neg_ℤ w)) e ∙ turned z y (neg_ℤ y) (neg_ℤ w) ∙ ap (λ (t : ℤ). t +ℤ (z +ℤ neg_ℤ w)) (+ℤ_invr y) ∙ +ℤ_idl (z +ℤ neg_ℤ w)
      where
        turned : (p q r s : ℤ) → (p +ℤ q) +ℤ (r +ℤ s) ≡ (q +ℤ r) +ℤ (p +ℤ s)
        turned p q r s = simp Ac

pub ⊖-negsuc : (n : ℕ) → negsuc n ≡ 0 ⊖ suc n
unfolding ◌⊖◌
⊖-negsuc n = sym (+ℤ_idl (negsuc n))
