-- Where bits stand that are read, and where there is room for those that are written.
use Rattle.std.specs.Prelude.{◌≡◌, true, false, List, ℕ, ◌+◌, ◌*◌, ◌^◌, ◌<◌, ◌≤◌, length, get_or, drop, ℤ, pos, ◌+ℤ◌, ◌-ℤ◌, ◌*ℤ◌}
use Rattle.std.specs.Int.Signed.{lt_z}
use Rattle.integers.specs.Bound.{In}
use Rattle.bits.specs.declared.inner.pens.Pen.{Pen}
use Rattle.bits.specs.Bits.{bits}
use Rattle.bits.specs.Signs.{unsigned, all_fit, fields, numbers}
use Rattle.bits.specs.inside.Pens.{reached, Ready}
use Rattle.grid.specs.Limits.{limit, all_on_grid}
use Rattle.grid.specs.Domain.{count}
use Rattle.steps.specs.Steps.{sums, differences}
use Rattle.steps.specs.Bodies.{contour_width, body, body_size}

-- n points in a width stand in a file from bit `at` on
pub record Stands (f : List ℕ) (at w n : ℕ) : Type 0 where
  pub few : n ≤ 32767
  pub short : length f ≤ 65536
  pub room : at + body_size n w ≤ 8 * length f

-- the width is one that is written
pub record Width (w : ℕ) : Type 0 where
  pub some : 0 < w
  pub few : w ≤ 32

-- k differences of a width stand in a file from bit `at` on
pub record There (f : List ℕ) (at w k : ℕ) : Type 0 where
  pub width : Width w
  pub long : 8 ≤ length f
  pub short : length f ≤ 65536
  pub room : at + w * k ≤ 8 * length f

-- the differences of n points behind x and y, which are of the grid, stand from bit `at` on, behind a point, and there is room for them
pub record Following (f : List ℕ) (at w n : ℕ) (x y : ℤ) (out : List ℤ) (to : ℕ) : Type 0 where
  pub there : There f at w (2 * n)
  pub behind : 64 ≤ at
  pub on : all_on_grid limit (sums x y (numbers w (2 * n) (drop at (bits f)))) ≡ true
  pub room : to + 2 * n ≤ length out

-- a contour of the grid in its width, for which there is room behind the pen
pub record Writable (row : List ℕ) (p : Pen) (c : List ℤ) (w : ℕ) : Type 0 where
  pub ready : Ready p
  pub even : length c ≡ 2 * count c
  pub on : all_on_grid limit c ≡ true
  pub is : w ≡ contour_width c
  pub room : reached p + length (body c) ≤ 8 * length row

-- the difference at position k of a contour that has one there
abbrev pub step : List ℤ → ℕ → ℤ
step c k = get_or c (k + 2) (pos 0) -ℤ get_or c k (pos 0)

-- the differences of a contour of the grid in a width that they fit, for which there is room behind the pen
pub record Fitting (row : List ℕ) (p : Pen) (c : List ℤ) (w : ℕ) : Type 0 where
  pub ready : Ready p
  pub width : Width w
  pub even : length c ≡ 2 * count c
  pub on : all_on_grid limit c ≡ true
  pub fit : all_fit w (differences c) ≡ true
  pub room : reached p + length (fields w (differences c)) ≤ 8 * length row

-- the width is one of which four fit a word
pub record Narrow (w : ℕ) : Type 0 where
  pub some : 0 < w
  pub few : w ≤ 15

-- the point at position k as one number, in which its first coordinate is s times as heavy
abbrev pub joined : ℤ → List ℤ → ℕ → ℤ
joined s c k = get_or c k (pos 0) *ℤ s +ℤ get_or c (k + 1) (pos 0)

-- two such points, which are so close that their difference is not below zero when it is raised
pub record Rising (from to : ℤ) (h : ℕ) : Type 0 where
  pub near : In (2 ^ 47) from
  pub near_too : In (2 ^ 47) to
  pub few : h < 2 ^ 31
  pub up : lt_z ((to -ℤ from) +ℤ pos h) (pos 0) ≡ false

-- both differences behind position k, each in w bits, as one number
abbrev pub point_bits : ℕ → List ℤ → ℕ → ℕ
point_bits w c k = unsigned w (step c k) * 2 ^ w + unsigned w (step c (k + 1))
