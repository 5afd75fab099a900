-- A contour's points are read as they were written, and written as they were read.
use mathlib.Core.Path.{◌≡◌, refl, sym, ◌∙◌, ap, ap₂}
use mathlib.Core.Bool.{Bool, true, ◌&&◌}
use mathlib.Core.List.{List, [], ◌∷◌, ◌++◌, append_assoc}
use Prim.Native.Nat.{ℕ, zero, suc, ◌*◌, ◌^◌, ◌<◌, ◌≤◌}
use native.Mathlib.Omega.{arith}
use lib.ListN.{length, take, drop, length-append, length-drop}
use lib.Seq.{drop_at, take-add}
use lib.IntN.{ℤ, ◌-ℤ◌}
use lib.Signed.{mag}
use mir.Syntax.{w32}
use borrow.Author.Tests.{lt-ltb}
use Rattle.integers.proofs.Bound.{in_fits, in_sub}
use Rattle.integers.proofs.Logic.{and_left, and_right, and_both}
use Rattle.bits.specs.Bits.{value}
use Rattle.bits.specs.Signs.{signed, fits, all_fit, fields, numbers}
use Rattle.bits.specs.Widths.{width_of}
use Rattle.bits.proofs.SignLaws.{all_fit_wider, fields-length, numbers-length, numbers_fields, fields_numbers, numbers_fit}
use Rattle.bits.proofs.WidthLaws.{smallest_some, smallest_few, smallest_passes}
use Rattle.grid.specs.Limits.{limit, on_grid, all_on_grid}
use Rattle.grid.proofs.LimitLaws.{on_grid_in}
use Rattle.steps.specs.Steps.{steps, differences, from_point}
use Rattle.steps.specs.Bodies.{body_size, steps_in, points_of_width}
use Rattle.steps.proofs.StepLaws.{sums_steps, steps_sums, steps-length, sums-length}

-- what is written of n points, in any width
pub body-length : (p : List ℤ) (n w : ℕ) → length p ≡ 2 * n → length (fields 32 (take 2 p) ++ fields w (differences p)) ≡ body_size n w
unfolding fields
body-length [] zero w e = refl
body-length [] (suc n) w e = absurd (omega arith)
body-length (x ∷ []) n w e = absurd (omega arith)
body-length (x ∷ y ∷ l) zero w e = absurd (omega arith)
body-length (x ∷ y ∷ l) (suc k) w e =
    let s : length (steps x y l) ≡ 2 * k = steps-length x y l ∙ omega arith in
    length-append (fields 32 (x ∷ y ∷ [])) (fields w (steps x y l))
    ∙ omega (arith, fields-length 32 (x ∷ y ∷ []), fields-length w (steps x y l) ∙ ap (λ (m : ℕ). w * m) s)

-- and read of it, whatever stands behind it
module _ (w : ℕ) (more : List Bool) where
  behind_point : (x y : ℤ) (ds : List ℤ) → drop 64 ((fields 32 (x ∷ y ∷ []) ++ fields w ds) ++ more) ≡ fields w ds ++ more
  behind_point x y ds =
      ap (drop 64) (append_assoc (fields 32 (x ∷ y ∷ [])) (fields w ds) more) ∙ drop_at (fields 32 (x ∷ y ∷ [])) (fields w ds ++ more) 64 (fields-length 32 (x ∷ y ∷ []))

  pub steps_back : (p : List ℤ) (n : ℕ) → length p ≡ 2 * n → 0 < w → all_fit w (differences p) ≡ true → steps_in n w ((fields 32 (take 2 p) ++ fields w (differences p)) ++ more) ≡ differences p
  steps_back [] zero e h c = refl
  steps_back [] (suc n) e h c = absurd (omega arith)
  steps_back (x ∷ []) n e h c = absurd (omega arith)
  steps_back (x ∷ y ∷ l) zero e h c = absurd (omega arith)
  steps_back (x ∷ y ∷ l) (suc k) e h c =
      let s : 2 * k ≡ length (steps x y l) = sym (steps-length x y l ∙ omega arith) in
      ap₂ (numbers w) s (behind_point x y (steps x y l)) ∙ numbers_fields w h (steps x y l) more c

  pub points_back : (p : List ℤ) (n : ℕ) → length p ≡ 2 * n → 0 < w → all_fit w (differences p) ≡ true → all_fit 32 (take 2 p) ≡ true
      → points_of_width n w ((fields 32 (take 2 p) ++ fields w (differences p)) ++ more) ≡ p
  points_back [] zero e h c d = refl
  points_back [] (suc n) e h c d = absurd (omega arith)
  points_back (x ∷ []) n e h c d = absurd (omega arith)
  points_back (x ∷ y ∷ l) zero e h c d = absurd (omega arith)
  points_back (x ∷ y ∷ l) (suc k) e h c d =
      let a = append_assoc (fields 32 (x ∷ y ∷ [])) (fields w (steps x y l)) more in
      ap₂ from_point (ap (numbers 32 2) a ∙ numbers_fields 32 (omega arith) (x ∷ y ∷ []) (fields w (steps x y l) ++ more) d) (steps_back (x ∷ y ∷ l) (suc k) e h c)
      ∙ ap (λ (q : List ℤ). x ∷ y ∷ q) (sums_steps x y l)

-- what is read of n points
module _ (w : ℕ) (t : List Bool) where
  pub points-length : (n : ℕ) → length (points_of_width n w t) ≡ 2 * n
  unfolding numbers
  points-length zero = refl
  points-length (suc k) =
      omega (
        arith,
        sums-length (signed 32 (value (take 32 t))) (signed 32 (value (take 32 (drop 32 t)))) (numbers w (2 * k) (drop 64 t)),
        numbers-length w (2 * k) (drop 64 t),
      )

  pub points_steps : (n : ℕ) → differences (points_of_width n w t) ≡ steps_in n w t
  unfolding numbers
  points_steps zero = refl
  points_steps (suc k) = steps_sums _ _ (numbers w (2 * k) (drop 64 t))

  pub body_back : (n : ℕ) → 0 < w → body_size n w ≤ length t → fields 32 (take 2 (points_of_width n w t)) ++ fields w (steps_in n w t) ≡ take (body_size n w) t
  unfolding numbers fields
  body_back zero h e = refl
  body_back (suc k) h e =
      ap₂ (λ (a b : List Bool). a ++ b)
      (fields_numbers 32 (omega arith) 2 t (omega arith))
      (fields_numbers w h (2 * k) (drop 64 t) (omega (arith, length-drop 64 t)))
      ∙ sym (take-add 64 (w * (2 * k)) t)

  pub point_fits : (n : ℕ) → body_size n w ≤ length t → all_fit 32 (take 2 (points_of_width n w t)) ≡ true
  unfolding numbers all_fit
  point_fits zero e = refl
  point_fits (suc k) e = numbers_fit 32 (omega arith) 2 t (omega arith)

  pub steps_fit : (n : ℕ) → 0 < w → w ≤ 32 → body_size n w ≤ length t → all_fit 32 (steps_in n w t) ≡ true
  unfolding all_fit
  steps_fit zero h s e = refl
  steps_fit (suc k) h s e = all_fit_wider (numbers w (2 * k) (drop 64 t)) w 32 s (numbers_fit w h (2 * k) (drop 64 t) (omega (arith, length-drop 64 t)))

-- the width of differences that fit 32 bits
module _ (ds : List ℤ) where
  pub width_some : 0 < width_of ds
  width_some = smallest_some (λ (v : ℕ). all_fit v ds) 31

  pub width_within_32 : width_of ds ≤ 32
  width_within_32 = smallest_few (λ (v : ℕ). all_fit v ds) 31

  pub width_fitting : all_fit 32 ds ≡ true → all_fit (width_of ds) ds ≡ true
  width_fitting h = smallest_passes (λ (v : ℕ). all_fit v ds) 31 h

-- the differences of a contour of the grid do
pub differences_fit : (p : List ℤ) → all_on_grid limit p ≡ true → all_fit 32 (differences p) ≡ true
unfolding all_fit steps limit all_on_grid
differences_fit [] e = refl
differences_fit (x ∷ []) e = refl
differences_fit (x ∷ y ∷ l) e =
    let f : Bool = on_grid limit x in
    let g : Bool = on_grid limit y in
    let m : Bool = all_on_grid limit l in
    steps-within x y l (and_left f (g && m) e) (and_left g m (and_right f (g && m) e)) (and_right g m (and_right f (g && m) e))
  where
    one : (x u : ℤ) → on_grid limit x ≡ true → on_grid limit u ≡ true → fits 32 (u -ℤ x) ≡ true
    one x u d e = lt-ltb (mag (u -ℤ x)) (2 ^ 31) (in_fits {w = w32} (in_sub (on_grid_in limit u e) (on_grid_in limit x d)) tt).sfits

    steps-within : (x y : ℤ) (l : List ℤ) → on_grid limit x ≡ true → on_grid limit y ≡ true → all_on_grid limit l ≡ true → all_fit 32 (steps x y l) ≡ true
    steps-within x y [] a b e = refl
    steps-within x y (u ∷ l) a b e =
        let o : on_grid limit u ≡ true = and_left (on_grid limit u) (all_on_grid limit l) e in
        and_both (fits 32 (u -ℤ x)) (all_fit 32 (steps y u l)) (one x u a o) (steps-within y u l b o (and_right (on_grid limit u) (all_on_grid limit l) e))
