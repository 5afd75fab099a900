-- Which floats are finite, on the grid and below 0, as the code tells, and what those on the grid are in units.
use Rattle.std.proofs.Common.{◌≡◌, ℕ, zero, suc, ◌+◌, ◌*◌, ◌<◌, ◌≤◌, Bool, true, false, ltb, leb, ℤ, pos, negsuc, sym, refl, ap, ◌∙◌, true≢false, le_of_suc-le-suc, zero-lt-suc, div-lt_iff_lt-mul, mul-pos, le-div_iff_mul-le, zero-mul, mul-one, arith, ltb-false, ltb-true, le-ltb, lt-ltb, le-leb, leb-true}
use mathlib.Core.Bool.{false≢true}
use borrow.Author.Tests.{lt-leb}
use Rattle.std.specs.Float.{float_is_finite}
use lib.Ieee.{Float, nan, inf, fin, up, down, lt, neg}
use lib.Ieee.Fits.{up_pos, down_pos}
use Rattle.grid.specs.Limits.{narrow}
use Rattle.millimetres.specs.Scale.{near, finite, size, signed, units, on_grid}
use Rattle.millimetres.specs.inside.Small.{Small}

-- what `is_finite` answers is what the specification says
pub finite_is : (v : Float) → float_is_finite v ≡ finite v
unfolding float_is_finite finite
finite_is nan = refl
finite_is (inf s) = refl
finite_is (fin s m e) = refl

-- half a unit past the last coordinate, either side
abbrev pub edge_of : Bool → Float
edge_of s = fin s 1073741825 (negsuc 10)

-- what lies before it is rounded to a coordinate, and nothing else is
before_edge : (a c : ℕ) → 0 < c → ltb (a * 2048) (1073741825 * 1 * c) ≡ leb (near (1024 * a) c) narrow
unfolding near narrow
before_edge a c C = go (ltb (a * 2048) (1073741825 * 1 * c)) refl
  where
    go : (b : Bool) → ltb (a * 2048) (1073741825 * 1 * c) ≡ b → b ≡ leb (near (1024 * a) c) narrow
    go true t =
        let h : a * 2048 < 1073741825 * 1 * c = ltb-true (a * 2048) (1073741825 * 1 * c) t in
        sym (le-leb (near (1024 * a) c) narrow (le_of_suc-le-suc ((div-lt_iff_lt-mul {k = 2 * c} (omega arith)).1 (omega arith))))
    go false t =
        let h : 1073741825 * 1 * c ≤ a * 2048 = ltb-false (a * 2048) (1073741825 * 1 * c) t in
        sym (lt-leb (near (1024 * a) c) narrow ((le-div_iff_mul-le {k = 2 * c} (omega arith)).1 (omega arith)))

pub on_inside : (v : Float) → lt (edge_of true) v ≡ true → lt v (edge_of false) ≡ on_grid v
unfolding lt on_grid finite size
on_inside nan t = absurd (false≢true t)
on_inside (inf true) t = absurd (false≢true t)
on_inside (inf false) t = refl
on_inside (fin false m e) t = before_edge (m * up e) (down e) (down_pos e)
on_inside (fin true m e) t =
    lt-ltb 0 (m * up e * 2048 + 1073741825 * 1 * down e) (omega (arith, down_pos e))
    ∙ sym t ∙ before_edge (m * up e) (down e) (down_pos e)

pub on_outside : (v : Float) → lt (edge_of true) v ≡ false → false ≡ on_grid v
unfolding lt on_grid finite size
on_outside nan t = refl
on_outside (inf s) t = refl
on_outside (fin false m e) t = absurd (true≢false (sym (lt-ltb 0 (1073741825 * 1 * down e + m * up e * 2048) (omega (arith, down_pos e))) ∙ t))
on_outside (fin true m e) t = sym t ∙ before_edge (m * up e) (down e) (down_pos e)

-- a float on the grid is small enough for `steps`, without its sign
pub size_within : (v : Float) → on_grid v ≡ true → size v ≤ narrow
unfolding on_grid finite
size_within nan t = absurd (false≢true t)
size_within (inf s) t = absurd (false≢true t)
size_within (fin s m e) t = leb-true (size (fin s m e)) narrow t

near_small : (a c : ℕ) → 0 < c → near (1024 * a) c ≤ narrow → a < 1048576 * c
unfolding narrow
near_small a c C h =
    let t : ltb (a * 2048) (1073741825 * 1 * c) ≡ true = before_edge a c C ∙ le-leb (near (1024 * a) c) narrow h in
    omega (arith, ltb-true (a * 2048) (1073741825 * 1 * c) t)

abbrev zero_float : Float
zero_float = fin false 0 (pos 0)

none : (s : Bool) (e : ℤ) → size (fin s 0 e) ≡ 0
unfolding size near
none s e =
    let less : 2 * (1024 * (0 * up e)) + down e < 1 * (2 * down e) = omega (arith, zero-mul (up e), down_pos e) in
    let low : size (fin s 0 e) < 1 = (div-lt_iff_lt-mul {k = 2 * down e} (omega (arith, down_pos e))).1 less in
    omega arith

not_below : (e : ℤ) → lt (fin true 0 e) zero_float ≡ false
unfolding lt
not_below e = le-ltb 0 (0 * up e * 1 + 0 * down e) (omega (arith, zero-mul (up e), zero-mul (down e)))

not_negative : (m : ℕ) (e : ℤ) → lt (fin false m e) zero_float ≡ false
unfolding lt
not_negative m e = le-ltb (m * up e * 1) (0 * down e) (omega (arith, zero-mul (down e)))

negative : (m : ℕ) (e : ℤ) → lt (fin true (suc m) e) zero_float ≡ true
unfolding lt
negative m e = lt-ltb 0 (suc m * up e * 1 + 0 * down e) (omega (arith, mul-one (suc m * up e), mul-pos (zero-lt-suc m) (up_pos e)))

-- what `units` hands to `steps`, and what it makes of the answer
pub record Handed (v a : Float) (s : Bool) : Type 0 where
  pub small : Small a
  pub few : size a ≤ narrow
  pub is : signed s (size a) ≡ units v

pub below-zero : (v : Float) → on_grid v ≡ true → lt v zero_float ≡ true → Handed v (neg v) true
unfolding on_grid finite size neg units
below-zero nan t b = absurd (false≢true t)
below-zero (inf s) t b = absurd (false≢true t)
below-zero (fin false m e) t b = absurd (false≢true (sym (not_negative m e) ∙ b))
below-zero (fin true zero e) t b = absurd (false≢true (sym (not_below e) ∙ b))
below-zero (fin true (suc m) e) t b =
    let few = size_within (fin true (suc m) e) t in
    record { small = ((λ h. absurd (false≢true h)), near_small (suc m * up e) (down e) (down_pos e) few); few = few; is = refl }

pub from_zero : (v : Float) → on_grid v ≡ true → lt v zero_float ≡ false → Handed v v false
unfolding on_grid finite size units
from_zero nan t b = absurd (false≢true t)
from_zero (inf s) t b = absurd (false≢true t)
from_zero (fin false m e) t b =
    let few = size_within (fin false m e) t in
    record { small = ((λ h. absurd (false≢true h)), near_small (m * up e) (down e) (down_pos e) few); few = few; is = refl }
from_zero (fin true zero e) t b =
    let few = size_within (fin true 0 e) t in
    record {
      small = ((λ h. refl), near_small (0 * up e) (down e) (down_pos e) few);
      few = few;
      is = ap pos (none true e) ∙ ap (signed true) (sym (none true e));
    }
from_zero (fin true (suc m) e) t b = absurd (true≢false (sym (negative m e) ∙ b))
