-- Rows that start elsewhere, point by point.
use mathlib.Core.Path.{◌≡◌, sym, ◌∙◌, ap, ap₂}
use mathlib.Core.Bool.{true}
use mathlib.Core.List.{List}
use Prim.Native.Nat.{ℕ, ◌+◌, ◌-◌, ◌*◌, ◌/◌, ◌%◌, ◌<◌, ◌≤◌}
use native.Mathlib.Omega.{arith}
use native.Mathlib.Decide.{dec_lt, ℕ_discrete}
use native.Mathlib.Nat.{mod-eq_of_lt, mod-eq-sub-mod, mod-lt}
use lib.ListN.{length, get_or, take, drop, length-drop, length-append, take-append-drop, get_or-append}
use lib.Seq.{get_or-take, get_or-drop, get_or-append-add, ext_get_or}
use lib.IntN.{ℤ, pos}
use Rattle.integers.proofs.Equal.{eq_z_same}
use Rattle.grid.specs.declared.Point.{Point}
use Rattle.grid.specs.Points.{at, same}
use Rattle.grid.proofs.CornerLaws.{same_is}
use Rattle.turned.specs.Starts.{starts_at, started_at}
use Rattle.turned.proofs.SearchLaws.{all_true, true_all}

pub same_self : (a : Point) → same a a ≡ true
same_self a = rw (eq_z_same a.x) (eq_z_same a.y)

-- rows of n points each that have the same points are the same
pub points_tell : (a b : List ℤ) (n : ℕ) → length a ≡ 2 * n → length b ≡ 2 * n → ((i : ℕ) → i < n → at a i ≡ at b i) → a ≡ b
points_tell a b n la lb e = ext_get_or (pos 0) a b (la ∙ sym lb) (λ j h. go j h (ℕ_discrete (j % 2) 0))
  where
    go : (j : ℕ) → j < length a → Dec (j % 2 ≡ 0) → get_or a j (pos 0) ≡ get_or b j (pos 0)
    go j h (yes z) =
        let k : 2 * (j / 2) ≡ j = omega arith in
        ap (λ (i : ℕ). get_or a i (pos 0)) (sym k) ∙ ap (λ (p : Point). p.x) (e (j / 2) (omega (arith, la))) ∙ ap (λ (i : ℕ). get_or b i (pos 0)) k
    go j h (no z) =
        let k : 2 * (j / 2) + 1 ≡ j = omega arith in
        ap (λ (i : ℕ). get_or a i (pos 0)) (sym k) ∙ ap (λ (p : Point). p.y) (e (j / 2) (omega (arith, la))) ∙ ap (λ (i : ℕ). get_or b i (pos 0)) k

pub started-length : (s : ℕ) (row : List ℤ) → length (started_at s row) ≡ length row
started-length s row = omega (
  arith,
  length-append (drop (2 * s) row) (take (2 * s) row),
  length-append (take (2 * s) row) (drop (2 * s) row),
  ap length (take-append-drop (2 * s) row),
)

module _ (row : List ℤ) (n s : ℕ) (long : length row ≡ 2 * n) (h : s ≤ n) where
  -- the number j behind the start
  number_ahead : (j : ℕ) → 2 * s + j < 2 * n → get_or (started_at s row) j (pos 0) ≡ get_or row (2 * s + j) (pos 0)
  number_ahead j l = get_or-append (drop (2 * s) row) (take (2 * s) row) (pos 0) j (omega (arith, length-drop (2 * s) row, long)) ∙ get_or-drop (2 * s) row j (pos 0)

  -- and, past the end of the row, from its front
  number_round : (i j : ℕ) → j + 2 * n ≡ 2 * s + i → j < 2 * s → get_or (started_at s row) i (pos 0) ≡ get_or row j (pos 0)
  number_round i j e l =
      let k : length (drop (2 * s) row) + j ≡ i = omega (arith, length-drop (2 * s) row, long, e) in
      ap (λ (x : ℕ). get_or (started_at s row) x (pos 0)) (sym k) ∙ get_or-append-add (drop (2 * s) row) (take (2 * s) row) j (pos 0) ∙ get_or-take (2 * s) row j (pos 0) l

  pub started_point : (x : ℕ) → x < n → at (started_at s row) x ≡ at row ((s + x) % n)
  started_point x l = go (dec_lt (s + x) n)
    where
      go : Dec (s + x < n) → at (started_at s row) x ≡ at row ((s + x) % n)
      go (yes m) =
          let a : 2 * s + 2 * x ≡ 2 * (s + x) = omega arith in
          let b : 2 * s + (2 * x + 1) ≡ 2 * (s + x) + 1 = omega arith in
          ap₂ (λ (y z : ℤ). record { x = y; y = z })
          (number_ahead (2 * x) (omega arith) ∙ ap (λ (i : ℕ). get_or row i (pos 0)) a)
          (number_ahead (2 * x + 1) (omega arith) ∙ ap (λ (i : ℕ). get_or row i (pos 0)) b)
          ∙ ap (at row) (sym (mod-eq_of_lt m))
      go (no m) =
          let k : n ≤ s + x = omega arith in
          let y : s + x - n < n = omega arith in
          ap₂ (λ (y z : ℤ). record { x = y; y = z })
          (number_round (2 * x) (2 * (s + x - n)) (omega arith) (omega arith))
          (number_round (2 * x + 1) (2 * (s + x - n) + 1) (omega arith) (omega arith))
          ∙ ap (at row) (sym (mod-eq-sub-mod k ∙ mod-eq_of_lt y))

-- a contour that is another one from a start on, and is started there, is that other one
pub starts_is : (first second : List ℤ) (n t : ℕ) → length first ≡ 2 * n → length second ≡ 2 * n → t ≤ n → starts_at first second n t ≡ true → started_at t second ≡ first
unfolding starts_at
starts_is first second n t lf ls h e =
    points_tell (started_at t second) first n (started-length t second ∙ ls) lf
    (λ i l. started_point second n t ls h i l ∙ same_is (at second ((t + i) % n)) (at first i) (true_all _ n e i l))

-- what is started at s is the contour itself from n - s on
pub started_starts : (row : List ℤ) (n s : ℕ) → length row ≡ 2 * n → s < n → starts_at row (started_at s row) n (n - s) ≡ true
unfolding starts_at
started_starts row n s long h = all_true _ n (λ i l. ap (λ (p : Point). same p (at row i)) (there i l) ∙ same_self (at row i))
  where
    there : (i : ℕ) → i < n → at (started_at s row) ((n - s + i) % n) ≡ at row i
    there i l = started_point row n s long (omega arith) ((n - s + i) % n) (mod-lt (n - s + i) (omega arith)) ∙ ap (at row) (go (dec_lt (n - s + i) n))
      where
        go : Dec (n - s + i < n) → (s + (n - s + i) % n) % n ≡ i
        go (yes m) =
            let e : s + (n - s + i) ≡ i + n = omega arith in
            let k : n ≤ i + n = omega arith in
            let z : i + n - n ≡ i = omega arith in
            ap (λ (y : ℕ). (s + y) % n) (mod-eq_of_lt m) ∙ ap (λ (y : ℕ). y % n) e ∙ mod-eq-sub-mod k ∙ ap (λ (y : ℕ). y % n) z ∙ mod-eq_of_lt l
        go (no m) =
            let k : n ≤ n - s + i = omega arith in
            let y : n - s + i - n < n = omega arith in
            let e : s + (n - s + i - n) ≡ i = omega arith in
            ap (λ (y : ℕ). (s + y) % n) (mod-eq-sub-mod k ∙ mod-eq_of_lt y) ∙ ap (λ (y : ℕ). y % n) e ∙ mod-eq_of_lt l
