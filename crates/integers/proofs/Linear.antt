-- `omega` for ℤ: a fact of an expression's two natural parts, which `omega` proves, is one of the integer that it stands for.
use mathlib.Core.Path.{◌≡◌, refl, sym, ◌∙◌, ap, ap₂}
use mathlib.Core.Logic.{◌⊎◌, inl, inr, ⊎_elim}
use mathlib.Core.Bool.{true, false, not, not-not}
use Prim.Native.Nat.{ℕ, suc, ◌+◌, ◌-◌, ◌<◌, ◌≤◌}
use native.Mathlib.Omega.{arith}
use native.Mathlib.Decide.{dec_le}
use lib.IntN.{ℤ, pos, negsuc, neg_ℤ, nat_abs, ◌+ℤ◌, ◌-ℤ◌, ◌*ℤ◌, pos-ne-negsuc}
use lib.Dec.{leb, ltb}
use lib.Signed.{mag, le_z, lt_z}
use borrow.Author.Tests.{leb-true, ltb-true, ltb-false, le-leb, lt-leb, lt-ltb, le-ltb}
use Rattle.integers.specs.Linear.{Ex, at, num, ◌:+◌, ◌:-◌, ◌:*◌, :neg, value, up, dn, above, below}
use Rattle.integers.proofs.Ring.{◌⊖◌, ⊖-add, ⊖-neg, ⊖-pos, ⊖-mul, ⊖-eq, ⊖-negsuc}

-- which integer a difference is
pub ⊖-can : (a b : ℕ) → ((k : ℕ) × (a ≡ b + k) × (a ⊖ b ≡ pos k)) ⊎ ((k : ℕ) × (b ≡ a + suc k) × (a ⊖ b ≡ negsuc k))
⊖-can a b = go (dec_le b a)
  where
    go : Dec (b ≤ a) → ((k : ℕ) × (a ≡ b + k) × (a ⊖ b ≡ pos k)) ⊎ ((k : ℕ) × (b ≡ a + suc k) × (a ⊖ b ≡ negsuc k))
    go (yes h) = inl (a - b, omega arith, ⊖-eq a b (a - b) 0 (omega arith) ∙ sym (⊖-pos (a - b)))
    go (no h) = inr (b - suc a, omega arith, ⊖-eq a b 0 (suc (b - suc a)) (omega arith) ∙ sym (⊖-negsuc (b - suc a)))

pos_inj : (m n : ℕ) → pos m ≡ pos n → m ≡ n
pos_inj m n e = ap nat_abs e

negsuc_inj : (m n : ℕ) → negsuc m ≡ negsuc n → m ≡ n
negsuc_inj m n e = ap mag e

pub ⊖-inj : (a b c d : ℕ) → a ⊖ b ≡ c ⊖ d → a + d ≡ c + b
⊖-inj a b c d e = ⊎_elim
    (λ x. ⊎_elim
    (λ y. omega (arith, x.1, y.1, pos_inj x.0 y.0 (sym x.2 ∙ e ∙ y.2)))
    (λ y. absurd (pos-ne-negsuc x.0 y.0 (sym x.2 ∙ e ∙ y.2)))
    (⊖-can c d))
    (λ x. ⊎_elim
    (λ y. absurd (pos-ne-negsuc y.0 x.0 (sym y.2 ∙ sym e ∙ x.2)))
    (λ y. omega (arith, x.1, y.1, negsuc_inj x.0 y.0 (sym x.2 ∙ e ∙ y.2)))
    (⊖-can c d))
    (⊖-can a b)

-- the test of order, of differences
leb_same : (a b c d : ℕ) → (a ≤ b → c ≤ d) → (c ≤ d → a ≤ b) → leb a b ≡ leb c d
leb_same a b c d f g = go (dec_le a b)
  where
    go : Dec (a ≤ b) → leb a b ≡ leb c d
    go (yes h) = le-leb a b h ∙ sym (le-leb c d (f h))
    go (no h) = lt-leb a b (omega arith) ∙ sym (lt-leb c d (let k : ¬ (c ≤ d) = λ q. h (g q) in omega arith))

pub ⊖-leZ : (a b c d : ℕ) → le_z (a ⊖ b) (c ⊖ d) ≡ leb (a + d) (c + b)
⊖-leZ a b c d = ⊎_elim
    (λ x. ⊎_elim
    (λ y. ap₂ le_z x.2 y.2 ∙ leb_same x.0 y.0 (a + d) (c + b) (λ h. omega (arith, x.1, y.1)) (λ h. omega (arith, x.1, y.1)))
    (λ y. ap₂ le_z x.2 y.2 ∙ sym (lt-leb (a + d) (c + b) (omega (arith, x.1, y.1))))
    (⊖-can c d))
    (λ x. ⊎_elim
    (λ y. ap₂ le_z x.2 y.2 ∙ sym (le-leb (a + d) (c + b) (omega (arith, x.1, y.1))))
    (λ y. ap₂ le_z x.2 y.2 ∙ leb_same y.0 x.0 (a + d) (c + b) (λ h. omega (arith, x.1, y.1)) (λ h. omega (arith, x.1, y.1)))
    (⊖-can c d))
    (⊖-can a b)

-- every integer is a difference
pub difference : (z : ℤ) → z ≡ above z ⊖ below z
unfolding above below
difference (pos n) = ⊖-pos n
difference (negsuc n) = ⊖-negsuc n

-- and so is every expression
pub parts : (e : Ex) → value e ≡ up e ⊖ dn e
parts (at z) = difference z
parts (num n) = ⊖-pos n
parts (e :+ f) = ap₂ ◌+ℤ◌ (parts e) (parts f) ∙ ⊖-add (up e) (dn e) (up f) (dn f)
parts (e :- f) = ap₂ ◌+ℤ◌ (parts e) (ap neg_ℤ (parts f) ∙ ⊖-neg (up f) (dn f)) ∙ ⊖-add (up e) (dn e) (dn f) (up f)
parts (e :* f) = ap₂ ◌*ℤ◌ (parts e) (parts f) ∙ ⊖-mul (up e) (dn e) (up f) (dn f)
parts (:neg e) = ap neg_ℤ (parts e) ∙ ⊖-neg (up e) (dn e)

pub same_parts : (e f : Ex) → value e ≡ value f → up e + dn f ≡ up f + dn e
same_parts e f h = ⊖-inj (up e) (dn e) (up f) (dn f) (sym (parts e) ∙ h ∙ parts f)

-- the tests of order
le_z_is : (e f : Ex) → le_z (value e) (value f) ≡ leb (up e + dn f) (up f + dn e)
le_z_is e f = ap₂ le_z (parts e) (parts f) ∙ ⊖-leZ (up e) (dn e) (up f) (dn f)

-- less is not the other way at most
lt_not : (a b : ℕ) → ltb a b ≡ not (leb b a)
lt_not a b = go (dec_le b a)
  where
    go : Dec (b ≤ a) → ltb a b ≡ not (leb b a)
    go (yes h) = le-ltb a b h ∙ sym (ap not (le-leb b a h))
    go (no h) = lt-ltb a b (omega arith) ∙ sym (ap not (lt-leb b a (omega arith)))

lt_z_not : (a b : ℤ) → lt_z a b ≡ not (le_z b a)
lt_z_not (pos a) (pos b) = lt_not a b
lt_z_not (pos a) (negsuc b) = refl
lt_z_not (negsuc a) (pos b) = refl
lt_z_not (negsuc a) (negsuc b) = lt_not b a

lt_z_is : (e f : Ex) → lt_z (value e) (value f) ≡ ltb (up e + dn f) (up f + dn e)
lt_z_is e f = lt_z_not (value e) (value f) ∙ ap not (le_z_is f e) ∙ sym (lt_not (up e + dn f) (up f + dn e))

-- x < y is 0 < y - x
pub lt_z_difference : (x y : ℤ) → lt_z x y ≡ lt_z (pos 0) (y -ℤ x)
lt_z_difference x y =
    let l : up (at x) + dn (at y) ≡ up (num 0) + dn (at y :- at x) = omega arith in
    let r : up (at y) + dn (at x) ≡ up (at y :- at x) + dn (num 0) = omega arith in
    lt_z_is (at x) (at y) ∙ ap₂ ltb l r ∙ sym (lt_z_is (num 0) (at y :- at x))

-- and x ≤ y is not y < x
pub le_z_not : (x y : ℤ) → le_z x y ≡ not (lt_z y x)
le_z_not x y = sym (not-not (le_z x y)) ∙ ap not (sym (lt_z_not y x))

-- to prove what a test gives
pub le_holds : (e f : Ex) → up e + dn f ≤ up f + dn e → le_z (value e) (value f) ≡ true
le_holds e f h = le_z_is e f ∙ le-leb (up e + dn f) (up f + dn e) h

pub lt_fails : (e f : Ex) → up f + dn e ≤ up e + dn f → lt_z (value e) (value f) ≡ false
lt_fails e f h = lt_z_is e f ∙ le-ltb (up e + dn f) (up f + dn e) h

pub lt_holds : (e f : Ex) → up e + dn f < up f + dn e → lt_z (value e) (value f) ≡ true
lt_holds e f h = lt_z_is e f ∙ lt-ltb (up e + dn f) (up f + dn e) h

-- to use it
pub le_means : (e f : Ex) → le_z (value e) (value f) ≡ true → up e + dn f ≤ up f + dn e
le_means e f h = leb-true (up e + dn f) (up f + dn e) (sym (le_z_is e f) ∙ h)

pub lt_means : (e f : Ex) → lt_z (value e) (value f) ≡ true → up e + dn f < up f + dn e
lt_means e f h = ltb-true (up e + dn f) (up f + dn e) (sym (lt_z_is e f) ∙ h)

pub lt_denies : (e f : Ex) → lt_z (value e) (value f) ≡ false → up f + dn e ≤ up e + dn f
lt_denies e f h = ltb-false (up e + dn f) (up f + dn e) (sym (lt_z_is e f) ∙ h)
