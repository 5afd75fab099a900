-- Two contours, and the same the other way round.
use mathlib.Core.Path.{◌≡◌, sym, ◌∙◌, ap}
use mathlib.Core.List.{List}
use Prim.Native.Nat.{ℕ, ◌+◌, ◌-◌, ◌<◌, ◌≤◌}
use native.Mathlib.Omega.{arith}
use native.Mathlib.Decide.{dec_le}
use lib.IntN.{ℤ}
use Rattle.grid.specs.Domain.{Contour}
use Rattle.turned.specs.Starts.{starts_at, smallest_start}
use Rattle.turned.specs.Promises.{RepeatsAfter}
use Rattle.turned.specs.inside.Words.{word}
use Rattle.turned.proofs.SearchLaws.{is_first, first_least, refuted}
use Rattle.turned.proofs.KeyLaws.{word_period, starts_words, words_start}

-- the start of one in the other, and how far that is from the way back
module _ (first second : List ℤ) (n : ℕ) (f : Contour first n) (s : Contour second n) (h : 0 < n) where
  abbrev u : ℕ → ℕ
  u = word first n

  abbrev v : ℕ → ℕ
  v = word second n

  -- the second is the first from t on: then the first is the second from n - t on
  back : (t : ℕ) → t ≤ n → ((x : ℕ) → v (t + x) ≡ u x) → (x : ℕ) → u (n - t + x) ≡ v x
  back t m e x =
      let k : t + (n - t + x) ≡ x + n = omega arith in
      sym (e (n - t + x)) ∙ ap v k ∙ (word_period second n).again x

  pub a_way_there_is_a_way_back : smallest_start first second n < n → smallest_start second first n < n
  a_way_there_is_a_way_back m = go (dec_le (smallest_start first second n) 0)
    where
      t : ℕ
      t = smallest_start first second n

      on : (x : ℕ) → v (t + x) ≡ u x
      on = starts_words first second f.on s.on n t h ((is_first (starts_at first second n) n).passes m)

      go : Dec (t ≤ 0) → smallest_start second first n < n
      go (yes z) =
          let e : (x : ℕ) → u (0 + x) ≡ v x = λ x. let a : t + x ≡ 0 + x = omega arith in let b : 0 + x ≡ x = omega arith in ap u b ∙ sym (on x) ∙ ap v a ∙ ap v b in
          omega (arith, first_least (starts_at second first n) n 0 (words_start second first s.on f.on n 0 e))
      go (no z) = omega (arith, first_least (starts_at second first n) n (n - t) (words_start second first s.on f.on n (n - t) (back t (omega arith) on)))

  -- there and back is once round what repeats
  module _ (some : 0 < smallest_start first second n) (m : smallest_start first second n < n) where
    abbrev there : ℕ
    there = smallest_start first second n

    abbrev home : ℕ
    home = smallest_start second first n

    onward : (x : ℕ) → v (there + x) ≡ u x
    onward = starts_words first second f.on s.on n there h ((is_first (starts_at first second n) n).passes m)

    homeward : (x : ℕ) → u (home + x) ≡ v x
    homeward = starts_words second first s.on f.on n home h ((is_first (starts_at second first n) n).passes (a_way_there_is_a_way_back m))

    -- no start comes before the first, either way
    none_before : (q : ℕ) → q < there → ((x : ℕ) → v (q + x) ≡ u x) → ⊥
    none_before q l e = omega (arith, first_least (starts_at first second n) n q (words_start first second f.on s.on n q e))

    none_before_home : (q : ℕ) → q < home → ((x : ℕ) → u (q + x) ≡ v x) → ⊥
    none_before_home q l e = omega (arith, first_least (starts_at second first n) n q (words_start second first s.on f.on n q e))

    pub there_and_back_is_what_repeats : RepeatsAfter second n (there + home)
    there_and_back_is_what_repeats = record {
      some = omega arith;
      most = omega (arith, first_least (starts_at second first n) n (n - there) (words_start second first s.on f.on n (n - there) (back there (omega arith) onward)));
      again = words_start second second s.on s.on n (there + home) (λ x. let k : there + home + x ≡ there + (home + x) = omega arith in ap v k ∙ onward (home + x) ∙ homeward x);
      smallest = λ q a b. refuted _ (λ e. shorter q a b (starts_words second second s.on s.on n q h e) (dec_le q there));
    }
      where
        shorter : (q : ℕ) → 0 < q → q < there + home → ((x : ℕ) → v (q + x) ≡ v x) → Dec (q ≤ there) → ⊥
        shorter q a b e (yes l) = none_before (there - q) (omega arith) (λ x. let k : q + (there - q + x) ≡ there + x = omega arith in sym (e (there - q + x)) ∙ ap v k ∙ onward x)
        shorter q a b e (no l) = none_before_home (q - there) (omega arith) (λ x. let k : there + (q - there + x) ≡ q + x = omega arith in sym (onward (q - there + x)) ∙ ap v k ∙ e x)
