-- Points that stand in a file: the first, and the differences behind it.
use mathlib.Core.Path.{◌≡◌, refl, sym, ◌∙◌, ap, ap₂}
use mathlib.Core.Bool.{Bool, false, ◌&&◌, ◌||◌, and_assoc}
use mathlib.Core.List.{List, [], ◌∷◌}
use Prim.Native.Nat.{ℕ, zero, suc, ◌+◌, ◌-◌, ◌*◌, ◌<◌, ◌≤◌}
use native.Mathlib.Omega.{arith}
use lib.ListN.{length, take, drop, set, length-set}
use lib.Seq.{drop-drop}
use lib.IntN.{ℤ}
use lib.Signed.{mag}
use mir.Syntax.{w32}
use mir.Val.{to_z, of_z}
use mir.Facts.{to_z-of_z}
use borrow.Author.Rules.{sfits_of}
use borrow.Author.Tests.{eqb-false, ltb-false}
use lib.Dec.{eqb, ltb}
use Rattle.integers.proofs.Logic.{or_left, or_right}
use Rattle.rows.specs.Rows.{placed}
use Rattle.rows.proofs.PlacedLaws.{placed_behind, set_placed}
use Rattle.bits.specs.Bits.{value, bits}
use Rattle.bits.specs.Signs.{signed, numbers}
use Rattle.grid.specs.Limits.{on_grid, all_on_grid}
use Rattle.steps.specs.Steps.{sums}
use Rattle.steps.specs.Bodies.{body_size, steps_in, points_of_width}
use Rattle.steps.specs.inside.Asked.{Stands, Width, There}

-- a point has no differences, and none has no point
pub no_steps : (n w : ℕ) (l : List Bool) → n < 2 → steps_in n w l ≡ []
unfolding numbers
no_steps zero w l h = refl
no_steps (suc zero) w l h = refl
no_steps (suc (suc n)) w l h = absurd (omega arith)

pub no_points : (n w : ℕ) (l : List Bool) → n ≡ 0 → points_of_width n w l ≡ []
no_points zero w l e = refl
no_points (suc n) w l e = absurd (omega arith)

-- some points, by where they stand
module _ (l : List Bool) (at w : ℕ) where
  pub some_steps : (n : ℕ) → 0 < n → steps_in n w (drop at l) ≡ numbers w (2 * (n - 1)) (drop (at + 64) l)
  some_steps zero h = absurd (omega arith)
  some_steps (suc k) h =
      let e : 2 * k ≡ 2 * (suc k - 1) = omega arith in
      ap₂ (numbers w) e (drop-drop 64 at l)

  pub some_points : (n : ℕ) → 0 < n → (x y : ℤ) → x ≡ signed 32 (value (take 32 (drop at l))) → y ≡ signed 32 (value (take 32 (drop (at + 32) l)))
      → points_of_width n w (drop at l) ≡ x ∷ y ∷ sums x y (numbers w (2 * (n - 1)) (drop (at + 64) l))
  unfolding numbers
  some_points zero h x y p q = absurd (omega arith)
  some_points (suc k) h x y p q =
      ap₂ (λ (a b : ℤ). a ∷ b ∷ sums a b (steps_in (suc k) w (drop at l)))
      (sym p) (ap (λ (m : List Bool). signed 32 (value (take 32 m))) (drop-drop 32 at l) ∙ sym q)
      ∙ ap (λ (ds : List ℤ). x ∷ y ∷ sums x y ds) (some_steps (suc k) h)

-- two numbers and more are on the grid where the two are, and the others
pub two_on : (bound : ℕ) (x y : ℤ) (l : List ℤ) → all_on_grid bound (x ∷ y ∷ l) ≡ ((on_grid bound x && on_grid bound y) && all_on_grid bound l)
unfolding all_on_grid
two_on bound x y l = sym (and_assoc (on_grid bound x) (on_grid bound y) (all_on_grid bound l))

-- two numbers that are stored, and more behind them
module _ (row : List ℤ) (to : ℕ) (x y : ℤ) (h : to + 2 ≤ length row) where
  two_placed : set (set row to x) (to + 1) y ≡ placed to (x ∷ y ∷ []) row
  two_placed =
      set_placed (set row to x) (to + 1) y (omega (arith, length-set row to x))
      ∙ ap (placed (to + 1) (y ∷ [])) (set_placed row to x (omega arith))
      ∙ placed_behind row to (x ∷ []) (y ∷ []) (to + 1) (omega arith) (omega arith)

  pub stored_long : length (set (set row to x) (to + 1) y) ≡ length row
  stored_long = length-set (set row to x) (to + 1) y ∙ length-set row to x

  pub stored_behind : (l : List ℤ) → placed (to + 2) l (set (set row to x) (to + 1) y) ≡ placed to (x ∷ y ∷ l) row
  stored_behind l = ap (placed (to + 2) l) two_placed ∙ placed_behind row to (x ∷ y ∷ []) l (to + 2) h (omega arith)

module _ {f : List ℕ} {at w n : ℕ} (s : Stands f at w n) (h : 0 < n) where
  size_is : body_size n w ≡ 64 + w * (2 * (n - 1))
  size_is = by n h
    where
      by : (n : ℕ) → 0 < n → body_size n w ≡ 64 + w * (2 * (n - 1))
      by zero h = absurd (omega arith)
      by (suc k) h = let e : k ≡ suc k - 1 = omega arith in ap (λ (m : ℕ). 64 + w * (2 * m)) e

  pub long_enough : 8 ≤ length f
  long_enough = omega (arith, s.room, size_is)

  pub steps_there : Width w → There f (at + 64) w (2 * (n - 1))
  steps_there v = record { width = v; long = long_enough; short = s.short; room = omega (arith, s.room, size_is) }

-- some points, by the first as it was read
pub points_read : (f : List ℕ) (at w n : ℕ) → 0 < n → {x y : ℤ} → mag x < 2147483648 → mag y < 2147483648
    → x ≡ signed 32 (value (take 32 (drop at (bits f)))) → y ≡ signed 32 (value (take 32 (drop (at + 32) (bits f))))
    → points_of_width n w (drop at (bits f))
    ≡ to_z w32 (of_z w32 x) ∷ to_z w32 (of_z w32 y) ∷ sums (to_z w32 (of_z w32 x)) (to_z w32 (of_z w32 y)) (numbers w (2 * (n - 1)) (drop (at + 64) (bits f)))
points_read f at w n h p q e g =
    some_points (bits f) at w n h _ _ (to_z-of_z {w = w32} (sfits_of p) ∙ e) (to_z-of_z {w = w32} (sfits_of q) ∙ g)

-- whether it is on the grid, as it was tested
pub two_told : (bound : ℕ) (x y : ℤ) (l : List ℤ) {p q t : Bool} → p ≡ on_grid bound x → q ≡ on_grid bound y → (p && q) ≡ t
    → all_on_grid bound (x ∷ y ∷ l) ≡ (t && all_on_grid bound l)
two_told bound x y l e f g = two_on bound x y l ∙ ap (λ (b : Bool). b && all_on_grid bound l) (sym (ap₂ ◌&&◌ e f) ∙ g)

-- the differences, in a width that was tested
pub tested_there : {f : List ℕ} {at w n : ℕ} → Stands f at w n → 0 < n → (eqb w 0 || ltb 32 w) ≡ false → There f (at + 64) w (2 * (n - 1))
tested_there {f} {at} {w} {n} s some e =
    steps_there s some (record { some = omega (arith, eqb-false w 0 (or_left (eqb w 0) (ltb 32 w) e)); few = ltb-false 32 w (or_right (eqb w 0) (ltb 32 w) e) })
