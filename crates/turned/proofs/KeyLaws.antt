-- Keys tell points apart, so words tell contours apart.
use mathlib.Core.Path.{◌≡◌, refl, sym, ◌∙◌, ap}
use mathlib.Core.Bool.{Bool, true, false}
use mathlib.Core.List.{List}
use Prim.Native.Nat.{ℕ, ◌+◌, ◌*◌, ◌%◌, ◌^◌, ◌<◌}
use native.Mathlib.Omega.{arith}
use native.Mathlib.Nat.{add-mod_right, mod-eq_of_lt}
use lib.ListN.{get_or}
use lib.IntN.{ℤ, pos}
use mir.Syntax.{w32}
use mir.Val.{SFits, of_z}
use mir.Facts.{Fits-of_z}
use Rattle.integers.proofs.Bound.{in_fits}
use Rattle.integers.proofs.Equal.{bits_eq, eq_z_same}
use Rattle.grid.specs.declared.Point.{Point}
use Rattle.grid.specs.Limits.{limit, all_on_grid}
use Rattle.grid.specs.Points.{at, same}
use Rattle.grid.proofs.LimitLaws.{on_grid_in, all_on_grid_at}
use Rattle.grid.proofs.CornerLaws.{same_is}
use Rattle.turned.specs.Starts.{starts_at}
use Rattle.turned.specs.inside.Words.{key, word, Period}
use Rattle.turned.proofs.WordLaws.{all_agree, from_period}
use Rattle.turned.proofs.SearchLaws.{all_true, true_all}

-- a coordinate of the grid is an i32
fits : (row : List ℤ) (i : ℕ) → all_on_grid limit row ≡ true → SFits w32 (get_or row i (pos 0))
unfolding limit
fits row i e = in_fits (on_grid_in limit (get_or row i (pos 0)) (all_on_grid_at limit row i e)) tt

pub same_key : (a b : Point) → same a b ≡ true → key a ≡ key b
same_key a b e = ap key (same_is a b e)

pub key_differs : (a b : Point) → (key a ≡ key b → ⊥) → same a b ≡ false
key_differs a b n = go (same a b) refl
  where
    go : (t : Bool) → same a b ≡ t → same a b ≡ false
    go true e = absurd (n (same_key a b e))
    go false e = e

pub word_period : (row : List ℤ) (n : ℕ) → Period (word row n) n
unfolding word
word_period row n = record { again = λ x. ap (λ (y : ℕ). key (at row y)) (add-mod_right x n) }

module _ (first second : List ℤ) (f : all_on_grid limit first ≡ true) (s : all_on_grid limit second ≡ true) where
  pub key_same : (x y : ℕ) → key (at second x) ≡ key (at first y) → same (at second x) (at first y) ≡ true
  unfolding key
  key_same x y e =
      let a = get_or second (2 * x) (pos 0) in
      let b = get_or second (2 * x + 1) (pos 0) in
      let c = get_or first (2 * y) (pos 0) in
      let d = get_or first (2 * y + 1) (pos 0) in
      let la : of_z w32 a < 2 ^ 32 = (Fits-of_z (fits second (2 * x) s)).fits in
      let lc : of_z w32 c < 2 ^ 32 = (Fits-of_z (fits first (2 * y) f)).fits in
      let q : of_z w32 b ≡ of_z w32 d = omega (arith, e) in
      let p : of_z w32 a ≡ of_z w32 c = omega (arith, e, q) in
      let xs : a ≡ c = bits_eq w32 (fits second (2 * x) s) (fits first (2 * y) f) p in
      let ys : b ≡ d = bits_eq w32 (fits second (2 * x + 1) s) (fits first (2 * y + 1) f) q in
      rw (xs, ys, eq_z_same c) (eq_z_same d)

  -- a start, told by the words
  module _ (n t : ℕ) where
    pub starts_words : 0 < n → starts_at first second n t ≡ true → (x : ℕ) → word second n (t + x) ≡ word first n x
    unfolding starts_at word
    starts_words h e =
        all_agree (from_period (word_period second n) t) (word_period first n) h
        (λ x m. same_key _ _ (true_all _ n e x m) ∙ ap (λ (y : ℕ). key (at first y)) (sym (mod-eq_of_lt m)))

    pub words_start : ((x : ℕ) → word second n (t + x) ≡ word first n x) → starts_at first second n t ≡ true
    unfolding starts_at word
    words_start e = all_true _ n (λ x m. key_same ((t + x) % n) x (e x ∙ ap (λ (y : ℕ). key (at first y)) (mod-eq_of_lt m)))
