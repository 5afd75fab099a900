-- The lines of a listing, each by how its two contours were found to be.
use mathlib.Core.Path.{◌≡◌, refl, sym, ◌∙◌, ap}
use mathlib.Core.Bool.{Bool, true, false, not, true≢false}
use mathlib.Core.List.{List}
use Prim.Native.Nat.{ℕ, zero, suc, ◌+◌, ◌%◌, ◌<◌, ◌≤◌}
use native.Mathlib.Omega.{arith}
use native.Mathlib.Nat.{mod-eq_of_lt}
use lib.IntN.{ℤ}
use borrow.Author.Tests.{eq-eqb, ne_eqb, lt-ltb, le-ltb, not-true, not-false}
use Rattle.grid.specs.Limits.{limit, all_on_grid}
use Rattle.grid.specs.Points.{at}
use Rattle.grid.specs.Points as Points
use Rattle.grid.specs.Domain.{count}
use Rattle.turned.specs.Starts.{starts_at, smallest_start}
use Rattle.turned.specs.inside.Words.{key, keys, Apart}
use Rattle.turned.proofs.KeyLaws.{key_same, key_differs}
use Rattle.turned.proofs.SearchLaws.{first_is, is_first, all_true, true_all}
use Rattle.difference.specs.Lines.{same, elsewhere, different, first_other, judged, by_count, compared}

module _ (first second : List ℤ) (n : ℕ) where
  abbrev Differs : ℕ → Bool
  Differs i = not (Points.same (at second i) (at first i))

  -- a position counted from the start 0
  from_none : (x : ℕ) → x < n → (0 + x) % n ≡ x
  from_none x l = let z : 0 + x ≡ x = omega arith in ap (λ (y : ℕ). y % n) z ∙ mod-eq_of_lt l

  -- no position differs: the start is 0
  pub start-zero : first_other first second n ≡ n → smallest_start first second n ≡ 0
  unfolding starts_at
  start-zero e = sym (first_is _ n 0 (record {
    within = omega arith;
    passes = λ h. all_true _ n (λ x l.
        ap (λ (y : ℕ). Points.same (at second y) (at first x)) (from_none x l)
        ∙ not-false _ ((is_first Differs n).before x (omega (arith, e))));
    before = λ x l. absurd (omega arith);
  }))

  -- a position differs: the start is not 0
  pub start_not_zero : first_other first second n < n → smallest_start first second n ≡ 0 → ⊥
  unfolding starts_at
  start_not_zero h e =
      let d = first_other first second n in
      let t : starts_at first second n 0 ≡ true = rw e at ((is_first (starts_at first second n) n).passes (omega (arith, e))) in
      let y : Points.same (at second d) (at first d) ≡ true = ap (λ (y : ℕ). Points.same (at second y) (at first d)) (sym (from_none d h)) ∙ true_all _ n t d h in
      true≢false (sym y ∙ not-true _ ((is_first Differs n).passes h))

  pub other_within : first_other first second n ≤ n
  other_within = (is_first Differs n).within

-- how far the keys of two rows agree is how far their points do
pub other_is : (first second : List ℤ) (n r : ℕ) → all_on_grid limit first ≡ true → all_on_grid limit second ≡ true → Apart (keys first 0) (keys second 0) n r → r ≡ first_other first second n
other_is first second n r f s a = first_is _ n r (record {
  within = a.within;
  passes = λ h. ap not (key_differs (at second r) (at first r) (λ e. a.differ h (at_front first r ∙ sym e ∙ sym (at_front second r))));
  before = λ x h. ap not (key_same first second f s x x (sym (at_front second x) ∙ sym (a.agree x h) ∙ at_front first x));
})
  where
    at_front : (row : List ℤ) (x : ℕ) → keys row 0 x ≡ key (at row x)
    at_front row x = let z : 0 + x ≡ x = omega arith in ap (λ (y : ℕ). key (at row y)) z

judged_elsewhere : (n s d : ℕ) → (s ≡ 0 → ⊥) → s < n → judged n s d ≡ elsewhere s
judged_elsewhere n zero d z h = absurd (z refl)
judged_elsewhere n (suc s) d z h = rw (lt-ltb (suc s) n h, judged)

judged_different : (n s d : ℕ) → (s ≡ 0 → ⊥) → n ≤ s → judged n s d ≡ different d
judged_different n zero d z h = absurd (z refl)
judged_different n (suc s) d z h = rw (le-ltb (suc s) n h, judged)

module _ (first second : List ℤ) where
  pub unequal : (count first ≡ count second → ⊥) → compared first second ≡ by_count false first second
  unfolding compared
  unequal n = ap (λ (b : Bool). by_count b first second) (ne_eqb (count first) (count second) n)

  pub shorter : count first < count second → compared first second ≡ different (first_other first second (count first))
  shorter h = unequal (λ e. omega arith) ∙ ap (λ (k : ℕ). different (first_other first second k)) (omega arith)

  pub longer : count second < count first → compared first second ≡ different (first_other first second (count second))
  longer h = unequal (λ e. omega arith) ∙ ap (λ (k : ℕ). different (first_other first second k)) (omega arith)

  module _ (m : count first ≡ count second) where
    level : compared first second ≡ by_count true first second
    unfolding compared
    level = ap (λ (b : Bool). by_count b first second) (eq-eqb (count first) (count second) m)

    pub same_all : first_other first second (count second) ≡ count second → compared first second ≡ same
    same_all e = level ∙ ap (λ (s : ℕ). judged (count second) s (first_other first second (count second))) (start-zero first second (count second) e)

    module _ (d : first_other first second (count second) < count second) where
      pub same_elsewhere : smallest_start first second (count second) < count second → compared first second ≡ elsewhere (smallest_start first second (count second))
      same_elsewhere h = level ∙ judged_elsewhere _ _ _ (start_not_zero first second (count second) d) h

      pub same_nowhere : count second ≤ smallest_start first second (count second) → compared first second ≡ different (first_other first second (count second))
      same_nowhere h = level ∙ judged_different _ _ _ (start_not_zero first second (count second) d) h
