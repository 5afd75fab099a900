-- Words, their order and their periods.
use mathlib.Core.Path.{◌≡◌, sym, ◌∙◌, ap, subst, fun_ext}
use mathlib.Core.Logic.{◌⊎◌, inl, inr, ⊎_elim}
use Prim.Native.Nat.{ℕ, zero, suc, ◌+◌, ◌-◌, ◌*◌, ◌/◌, ◌%◌, ◌<◌, ◌≤◌}
use native.Mathlib.Omega.{arith}
use native.Mathlib.Decide.{ℕ_discrete, dec_le, dec_lt}
use native.Mathlib.Nat.{zero-mul, suc-mul, mod-add-div', mod-lt}
use Rattle.turned.specs.inside.Words.{from, Less, Period}

pub less_irrefl : {u : ℕ → ℕ} → Less u u → ⊥
less_irrefl l = omega (arith, l.less)

pub less_trans : {u v w : ℕ → ℕ} → Less u v → Less v w → Less u w
less_trans {u} {v} {w} a b = go (dec_lt a.place b.place) (dec_lt b.place a.place)
  where
    go : Dec (a.place < b.place) → Dec (b.place < a.place) → Less u w
    go (yes h) d = record {
      place = a.place;
      before = λ x m. a.before x m ∙ b.before x (omega arith);
      less = omega (arith, a.less, b.before a.place h);
    }
    go (no h) (yes m) = record {
      place = b.place;
      before = λ x k. a.before x (omega arith) ∙ b.before x k;
      less = omega (arith, b.less, a.before b.place m);
    }
    go (no h) (no m) =
        let e : a.place ≡ b.place = omega arith in
        let l : u b.place < v b.place = subst (λ (p : ℕ). u p < v p) e a.less in
        record {
          place = b.place;
          before = λ x k. a.before x (omega arith) ∙ b.before x k;
          less = omega (arith, b.less);
        }

-- the first number at which two words differ tells which is less
pub told : {u v : ℕ → ℕ} (k : ℕ) → ((x : ℕ) → x < k → u x ≡ v x) → (u k ≡ v k → ⊥) → Less u v ⊎ Less v u
told {u} {v} k same differ = go (dec_lt (u k) (v k))
  where
    go : Dec (u k < v k) → Less u v ⊎ Less v u
    go (yes h) = inl (record { place = k; before = same; less = h })
    go (no h) = inr (record { place = k; before = λ x m. sym (same x m); less = omega arith })

-- words compared as far as n
compare_to : (u v : ℕ → ℕ) (n : ℕ) → (Less u v ⊎ Less v u) ⊎ ((x : ℕ) → x < n → u x ≡ v x)
compare_to u v zero = inr (λ x h. absurd (omega arith))
compare_to u v (suc n) = ⊎_elim (λ l. inl l) (λ same. go same (ℕ_discrete (u n) (v n))) (compare_to u v n)
  where
    go : ((x : ℕ) → x < n → u x ≡ v x) → Dec (u n ≡ v n) → (Less u v ⊎ Less v u) ⊎ ((x : ℕ) → x < suc n → u x ≡ v x)
    go same (no d) = inl (told n same d)
    go same (yes e) = inr (λ x h. at x h (dec_lt x n))
      where
        at : (x : ℕ) → x < suc n → Dec (x < n) → u x ≡ v x
        at x h (yes m) = same x m
        at x h (no m) = let f : n ≡ x = omega arith in subst (λ (y : ℕ). u y ≡ v y) f e

module _ {w : ℕ → ℕ} {p : ℕ} (r : Period w p) where
  again_times : (m x : ℕ) → w (x + m * p) ≡ w x
  again_times zero x = ap w (let e : x + 0 * p ≡ x = omega (arith, zero-mul p) in e)
  again_times (suc m) x =
      let e : x + suc m * p ≡ x + m * p + p = omega (arith, suc-mul m p) in
      ap w e ∙ r.again (x + m * p) ∙ again_times m x

  -- a position counts modulo the period
  pub again_mod : (i x : ℕ) → w (i % p + x) ≡ w (i + x)
  again_mod i x =
      let e : i + x ≡ i % p + x + i / p * p = omega (arith, mod-add-div' i p) in
      sym (ap w e ∙ again_times (i / p) (i % p + x))

  pub from_mod : (i : ℕ) → from w (i % p) ≡ from w i
  from_mod i = fun_ext (λ x. again_mod i x)

  pub from_again : (i : ℕ) → from w (i + p) ≡ from w i
  from_again i = fun_ext (λ x. let e : i + p + x ≡ i + x + p = omega arith in ap w e ∙ r.again (i + x))

-- words of one period that agree so far agree everywhere
pub all_agree : {u v : ℕ → ℕ} {n : ℕ} → Period u n → Period v n → 0 < n → ((x : ℕ) → x < n → u x ≡ v x) → (x : ℕ) → u x ≡ v x
all_agree {u} {v} {n} p q h same x =
    let e : x % n + 0 ≡ x % n = omega arith in
    let f : x + 0 ≡ x = omega arith in
    sym (sym (ap u e) ∙ again_mod p x 0 ∙ ap u f) ∙ same (x % n) (mod-lt x h) ∙ (sym (ap v e) ∙ again_mod q x 0 ∙ ap v f)

pub from_period : {w : ℕ → ℕ} {p : ℕ} → Period w p → (i : ℕ) → Period (from w i) p
from_period {w} {p} r i = record { again = λ x. let e : i + (x + p) ≡ i + x + p = omega arith in ap w e ∙ r.again (i + x) }

-- of two words of one period one is less, or they are equal
pub compare : {u v : ℕ → ℕ} {n : ℕ} → Period u n → Period v n → 0 < n → (Less u v ⊎ Less v u) ⊎ (u ≡ v)
compare {u} {v} {n} p q h = ⊎_elim (λ l. inl l) (λ same. inr (fun_ext (all_agree p q h same))) (compare_to u v n)

-- of the rotations from the positions up to m the one from i is least
record LeastTo (w : ℕ → ℕ) (m i : ℕ) : Type 0 where
  low : i ≤ m
  least : (y : ℕ) → y ≤ m → Less (from w y) (from w i) → ⊥

-- one position more: the new rotation is less, or is not
newer : {w : ℕ → ℕ} {m i : ℕ} → LeastTo w m i → Less (from w (suc m)) (from w i) → LeastTo w (suc m) (suc m)
newer {w} {m} {i} t l = record { low = omega arith; least = λ y k b. at y k b (dec_le y m) }
  where
    at : (y : ℕ) → y ≤ suc m → Less (from w y) (from w (suc m)) → Dec (y ≤ m) → ⊥
    at y k b (yes d) = t.least y d (less_trans b l)
    at y k b (no d) = let e : y ≡ suc m = omega arith in less_irrefl (subst (λ (z : ℕ). Less (from w z) (from w (suc m))) e b)

older : {w : ℕ → ℕ} {m i : ℕ} → LeastTo w m i → (Less (from w (suc m)) (from w i) → ⊥) → LeastTo w (suc m) i
older {w} {m} {i} t n = record { low = omega (arith, t.low); least = λ y k b. at y k b (dec_le y m) }
  where
    at : (y : ℕ) → y ≤ suc m → Less (from w y) (from w i) → Dec (y ≤ m) → ⊥
    at y k b (yes d) = t.least y d b
    at y k b (no d) = let e : y ≡ suc m = omega arith in n (subst (λ (z : ℕ). Less (from w z) (from w i)) e b)

-- some rotation is least
module _ {w : ℕ → ℕ} {n : ℕ} (p : Period w n) (h : 0 < n) where
  least_to : (m : ℕ) → (i : ℕ) × LeastTo w m i
  least_to zero = (
    0,
    record {
      low = omega arith;
      least = λ y k l. let e : y ≡ 0 = omega arith in less_irrefl (subst (λ (z : ℕ). Less (from w z) (from w 0)) e l);
    },
  )
  least_to (suc m) = go (least_to m)
    where
      go : (i : ℕ) × LeastTo w m i → (i : ℕ) × LeastTo w (suc m) i
      go (i, t) =
          ⊎_elim
          (⊎_elim (λ l. (suc m, newer t l)) (λ l. (i, older t (λ k. less_irrefl (less_trans k l)))))
          (λ e. (i, older t (λ k. less_irrefl (subst (λ (f : ℕ → ℕ). Less f (from w i)) e k))))
          (compare (from_period p (suc m)) (from_period p i) h)

  pub some_least : (i : ℕ) × (i < n) × ((y : ℕ) → Less (from w y) (from w i) → ⊥)
  some_least = go (least_to (n - 1))
    where
      go : (i : ℕ) × LeastTo w (n - 1) i → (i : ℕ) × (i < n) × ((y : ℕ) → Less (from w y) (from w i) → ⊥)
      go (i, t) = (i, omega (arith, t.low), λ y l. t.least (y % n) (omega (arith, mod-lt y h)) (subst (λ (f : ℕ → ℕ). Less f (from w i)) (sym (from_mod p y)) l))
