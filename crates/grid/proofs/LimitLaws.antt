-- What follows from being on the grid, whatever its bound. Callers use these laws, never the bounds' digits.
use Rattle.std.proofs.Common.{◌≡◌, ℕ, zero, suc, ◌+◌, ◌-◌, ◌*◌, ◌%◌, ◌^◌, ◌<◌, ◌≤◌, Bool, true, false, not, ◌&&◌, ◌||◌, fold, ltb, leb, List, [], ◌∷◌, ◌++◌, length, get_or, take, drop, ℤ, pos, negsuc, neg_ℤ, nat_abs, sym, refl, ap, ◌∙◌, arith, take_all, w32, SFits, to_z, of_z, ltb-false, ltb-true, le-ltb, lt-ltb, le-leb, leb-false, leb-true}
use mathlib.Core.Bool.{and_assoc, and-false, or_assoc, or-false}
use lib.Dec.{leb-zero, leb-suc-zero, leb-suc-suc}
use lib.Signed.{le_z, lt_z}
use Rattle.integers.specs.Bound.{In}
use Rattle.integers.proofs.Bound.{tests_in, back}
use Rattle.integers.proofs.Logic.{and_left, and_right, not_both}
use Rattle.grid.specs.Limits.{limit, narrow, on_grid, all_on_grid}
use Rattle.grid.specs.inside.Rows.{raised}

-- the narrow grid is part of the grid
pub narrow_within : narrow ≤ limit
unfolding narrow limit
narrow_within = omega arith

-- a coordinate is on the grid by its size
pub on_grid_size : (bound : ℕ) (z : ℤ) → on_grid bound z ≡ leb (nat_abs z) bound
unfolding on_grid
on_grid_size zero (pos n) = rw (leb-zero n)
on_grid_size (suc b) (pos n) = refl
on_grid_size zero (negsuc n) = sym (leb-suc-zero n)
on_grid_size (suc b) (negsuc n) = go (leb n b) refl
  where
    go : (t : Bool) → leb n b ≡ t → (leb n b && true) ≡ leb (suc n) (suc b)
    go true e = rw e (sym (leb-suc-suc n b ∙ e))
    go false e = rw e (sym (leb-suc-suc n b ∙ e))

-- of a wider grid too
pub on_wider : (one other : ℕ) (z : ℤ) → one ≤ other → on_grid one z ≡ true → on_grid other z ≡ true
on_wider one other z h e =
    on_grid_size other z ∙ le-leb (nat_abs z) other (omega (arith, leb-true (nat_abs z) one (sym (on_grid_size one z) ∙ e)))

pub all_on_wider : (one other : ℕ) (row : List ℤ) → one ≤ other → all_on_grid one row ≡ true → all_on_grid other row ≡ true
unfolding all_on_grid
all_on_wider one other [] h e = refl
all_on_wider one other (z ∷ row) h e =
    rw (on_wider one other z h (and_left (on_grid one z) (all_on_grid one row) e))
    (all_on_wider one other row h (and_right (on_grid one z) (all_on_grid one row) e))

-- a coordinate that was read or passed is itself
pub on_grid_back : (z : ℤ) → on_grid limit z ≡ true → to_z w32 (of_z w32 z) ≡ z
unfolding limit on_grid
on_grid_back z e =
    let first : Bool = le_z (neg_ℤ (pos limit)) z in
    back w32 (tests_in z limit (and_left first (le_z z (pos limit)) e) (and_right first (le_z z (pos limit)) e)) tt

-- raised by the bound, modulo 2^32, an i32 passes twice the bound exactly where it is off the grid
pub raised_beyond : (bound : ℕ) (z : ℤ) → bound ≤ limit → SFits w32 z → ltb (2 * bound) (raised bound z) ≡ not (on_grid bound z)
unfolding raised limit
raised_beyond bound (pos n) h f = go (leb n bound) refl
  where
    go : (t : Bool) → leb n bound ≡ t → ltb (2 * bound) (raised bound (pos n)) ≡ not (on_grid bound (pos n))
    go true e = rw (on_grid_size bound (pos n), e) (le-ltb (2 * bound) (raised bound (pos n)) (omega (arith, leb-true n bound e)))
    go false e =
        rw (on_grid_size bound (pos n), e) (lt-ltb (2 * bound) (raised bound (pos n)) (omega (arith, f.sfits, leb-false n bound e)))
raised_beyond bound (negsuc n) h f = go (leb (suc n) bound) refl
  where
    go : (t : Bool) → leb (suc n) bound ≡ t → ltb (2 * bound) (raised bound (negsuc n)) ≡ not (on_grid bound (negsuc n))
    go true e =
        rw (on_grid_size bound (negsuc n), e) (le-ltb (2 * bound) (raised bound (negsuc n)) (omega (arith, leb-true (suc n) bound e)))
    go false e =
        rw (on_grid_size bound (negsuc n), e)
        (lt-ltb (2 * bound) (raised bound (negsuc n)) (omega (arith, f.sfits, leb-false (suc n) bound e)))

-- the order of i32 is that of their bits, each raised by 2^31
signed_less : (low : ℕ) (n : ℕ) → low < 2 ^ 31 → n < 2 ^ 32 → lt_z (to_z w32 (2147483648 + low)) (to_z w32 n) ≡ ltb low ((n + 2147483648) % 2 ^ 32)
signed_less low n h f =
    rw (le-ltb (2147483648 + low) 2147483648 (omega arith)) (go (ltb n 2147483648) refl)
  where
    under : (t : Bool) → ltb low (n - 2147483648) ≡ t → 2147483648 ≤ n → ltb (4294967296 - suc n) (4294967296 - suc (2147483648 + low)) ≡ ltb low (n - 2147483648)
    under true e g =
        rw e (lt-ltb (4294967296 - suc n) (4294967296 - suc (2147483648 + low)) (omega (arith, ltb-true low (n - 2147483648) e)))
    under false e g =
        rw e (le-ltb (4294967296 - suc n) (4294967296 - suc (2147483648 + low)) (omega (arith, ltb-false low (n - 2147483648) e)))

    go : (t : Bool) → ltb n 2147483648 ≡ t → lt_z (negsuc (4294967296 - suc (2147483648 + low))) (to_z w32 n) ≡ ltb low ((n + 2147483648) % 2 ^ 32)
    go true e = rw e (sym (lt-ltb low ((n + 2147483648) % 2 ^ 32) (omega (arith, ltb-true n 2147483648 e))))
    go false e =
        let wraps : (n + 2147483648) % 2 ^ 32 ≡ n - 2147483648 = omega (arith, ltb-false n 2147483648 e) in
        rw (e, wraps) (under (ltb low (n - 2147483648)) refl (ltb-false n 2147483648 e))

-- set off so that the lowest coordinate is the lowest i32, an i32 passes the last exactly where it is off the grid
pub set_off_beyond : (bound : ℕ) (z : ℤ) → bound ≤ limit → SFits w32 z
    → lt_z (to_z w32 (2147483648 + 2 * bound)) (to_z w32 (raised (2147483648 + bound) z)) ≡ not (on_grid bound z)
unfolding limit raised
set_off_beyond bound z h f =
    let back : (raised (2147483648 + bound) z + 2147483648) % 2 ^ 32 ≡ raised bound z = omega arith in
    signed_less (2 * bound) (raised (2147483648 + bound) z) (omega arith) (omega arith) ∙ ap (ltb (2 * bound)) back ∙ raised_beyond bound z h f

module _ (bound : ℕ) where
  pub on_grid_in : (z : ℤ) → on_grid bound z ≡ true → In bound z
  unfolding on_grid
  on_grid_in z e =
      let first : Bool = le_z (neg_ℤ (pos bound)) z in
      tests_in z bound (and_left first (le_z z (pos bound)) e) (and_right first (le_z z (pos bound)) e)

  -- also past the row's end, where the 0 that is read is on the grid
  pub all_on_grid_at : (row : List ℤ) (i : ℕ) → all_on_grid bound row ≡ true → on_grid bound (get_or row i (pos 0)) ≡ true
  unfolding all_on_grid
  all_on_grid_at [] i e = on_grid_size bound (pos 0) ∙ leb-zero bound
  all_on_grid_at (z ∷ row) zero e = and_left (on_grid bound z) (all_on_grid bound row) e
  all_on_grid_at (z ∷ row) (suc i) e = all_on_grid_at row i (and_right (on_grid bound z) (all_on_grid bound row) e)

  -- whether a coordinate is beyond the bound, told one by one
  pub beyond_folded : (row : List ℤ) (some : Bool) → fold (λ (b : Bool) (z : ℤ). b || not (on_grid bound z)) some row ≡ (some || not (all_on_grid bound row))
  unfolding all_on_grid
  beyond_folded [] some = sym (or-false some)
  beyond_folded (z ∷ row) some =
      beyond_folded row (some || not (on_grid bound z))
      ∙ or_assoc some (not (on_grid bound z)) (not (all_on_grid bound row))
      ∙ ap (λ (t : Bool). some || t) (sym (not_both (on_grid bound z) (all_on_grid bound row)))

  -- two rows end to end are on the grid where both are
  pub on_joined : (p q : List ℤ) → all_on_grid bound (p ++ q) ≡ (all_on_grid bound p && all_on_grid bound q)
  unfolding all_on_grid
  on_joined [] q = refl
  on_joined (z ∷ p) q =
      ap (λ (t : Bool). on_grid bound z && t) (on_joined p q) ∙ sym (and_assoc (on_grid bound z) (all_on_grid bound p) (all_on_grid bound q))

  -- a part of a row on the grid is on the grid
  pub on_dropped : (n : ℕ) (row : List ℤ) → all_on_grid bound row ≡ true → all_on_grid bound (drop n row) ≡ true
  unfolding all_on_grid
  on_dropped zero row e = e
  on_dropped (suc n) [] e = e
  on_dropped (suc n) (z ∷ row) e = on_dropped n row (and_right (on_grid bound z) (all_on_grid bound row) e)

  pub on_taken : (n : ℕ) (row : List ℤ) → all_on_grid bound row ≡ true → all_on_grid bound (take n row) ≡ true
  unfolding all_on_grid
  on_taken zero row e = refl
  on_taken (suc n) [] e = e
  on_taken (suc n) (z ∷ row) e =
      rw (and_left (on_grid bound z) (all_on_grid bound row) e) (on_taken n row (and_right (on_grid bound z) (all_on_grid bound row) e))

  -- a row is on the grid exactly where its front is, and its end from there on or before
  pub on_parts : (k j m : ℕ) (row : List ℤ) → j ≤ k → length row ≤ j + m
      → (all_on_grid bound (take k row) && all_on_grid bound (take m (drop j row))) ≡ all_on_grid bound row
  unfolding all_on_grid
  on_parts k zero m row h l = go (all_on_grid bound row) refl
    where
      whole : take m row ≡ row
      whole = take_all m row (omega arith)

      go : (t : Bool) → all_on_grid bound row ≡ t → (all_on_grid bound (take k row) && all_on_grid bound (take m row)) ≡ all_on_grid bound row
      go true e = rw (on_taken k row e, whole)
      go false e = rw (whole, e) (and-false (all_on_grid bound (take k row)))
  on_parts zero (suc j) m row h l = absurd (omega arith)
  on_parts (suc k) (suc j) m [] h l = none m
    where
      none : (m : ℕ) → all_on_grid bound (take m []) ≡ true
      none zero = refl
      none (suc m) = refl
  on_parts (suc k) (suc j) m (z ∷ row) h l =
      and_assoc (on_grid bound z) (all_on_grid bound (take k row)) _
      ∙ ap (λ (t : Bool). on_grid bound z && t) (on_parts k j m row (omega arith) (omega arith))
