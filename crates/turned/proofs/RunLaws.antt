-- Words compared run by run, none of which goes past the end of its row.
use mathlib.Core.Path.{◌≡◌, sym, ◌∙◌, ap, subst}
use mathlib.Core.List.{List}
use Prim.Native.Nat.{ℕ, ◌+◌, ◌-◌, ◌%◌, ◌<◌, ◌≤◌}
use native.Mathlib.Omega.{arith}
use native.Mathlib.Decide.{dec_lt}
use native.Mathlib.Nat.{mod-eq_of_lt}
use lib.IntN.{ℤ}
use Rattle.grid.specs.Points.{at}
use Rattle.turned.specs.inside.Words.{key, keys, word, Apart}
use Rattle.turned.proofs.WordLaws.{again_mod}
use Rattle.turned.proofs.KeyLaws.{word_period}

-- a word from a position on, as far as the row goes
along : (row : List ℤ) (n p d : ℕ) → p % n + d < n → word row n (p + d) ≡ keys row (p % n) d
unfolding word
along row n p d h = sym (again_mod (word_period row n) p d) ∙ ap (λ (y : ℕ). key (at row y)) (mod-eq_of_lt h)

module _ (first second : List ℤ) (n i j k run r : ℕ) (far : (i + k) % n + run ≤ n) (off : (j + k) % n + run ≤ n)
    (a : Apart (keys first ((i + k) % n)) (keys second ((j + k) % n)) run r) where
  -- the run, told by the words
  module _ (d : ℕ) (l : d < run) where
    one : word first n (i + (k + d)) ≡ keys first ((i + k) % n) d
    one = let e : i + (k + d) ≡ i + k + d = omega arith in ap (word first n) e ∙ along first n (i + k) d (omega arith)

    other : word second n (j + (k + d)) ≡ keys second ((j + k) % n) d
    other = let e : j + (k + d) ≡ j + k + d = omega arith in ap (word second n) e ∙ along second n (j + k) d (omega arith)

  pub run_agrees : ((x : ℕ) → x < k → word first n (i + x) ≡ word second n (j + x)) → (x : ℕ) → x < k + r → word first n (i + x) ≡ word second n (j + x)
  run_agrees so_far x h = go (dec_lt x k)
    where
      go : Dec (x < k) → word first n (i + x) ≡ word second n (j + x)
      go (yes l) = so_far x l
      go (no l) =
          let e : k + (x - k) ≡ x = omega arith in
          let d : x - k < run = omega (arith, a.within) in
          subst (λ (y : ℕ). word first n (i + y) ≡ word second n (j + y)) e (one (x - k) d ∙ a.agree (x - k) (omega arith) ∙ sym (other (x - k) d))

  pub run_differs : r < run → word first n (i + (k + r)) ≡ word second n (j + (k + r)) → ⊥
  run_differs l e = a.differ l (sym (one r l) ∙ e ∙ other r l)
