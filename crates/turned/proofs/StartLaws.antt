-- Two contours by their least rotations: whether one is the other from some start on, and from which first.
use mathlib.Core.Path.{◌≡◌, sym, ◌∙◌, ap, subst, fun_ext}
use mathlib.Core.Logic.{⊎_elim}
use mathlib.Core.List.{List}
use Prim.Native.Nat.{ℕ, ◌+◌, ◌-◌, ◌%◌, ◌<◌, ◌≤◌}
use native.Mathlib.Omega.{arith}
use native.Mathlib.Nat.{mod-lt}
use lib.IntN.{ℤ}
use Rattle.grid.specs.Domain.{Contour}
use Rattle.turned.specs.Starts.{smallest_start}
use Rattle.turned.specs.inside.Words.{word, from, Less, Period, Least, Apart}
use Rattle.turned.proofs.WordLaws.{told, all_agree, from_period, again_mod}
use Rattle.turned.proofs.SearchLaws.{first_is, refuted}
use Rattle.turned.proofs.KeyLaws.{word_period, starts_words, words_start}

module _ {u v : ℕ → ℕ} {n i j p q : ℕ} (pu : Period u n) (pv : Period v n) (a : Least u n i p) (b : Least v n j q) where
  -- equal least rotations: v is u from this position on
  found : ((x : ℕ) → u (i + x) ≡ v (j + x)) → (x : ℕ) → v ((j + n - i) % q + x) ≡ u x
  found e x =
      let f : j + n - i + x ≡ j + (n - i + x) = omega (arith, a.within) in
      let g : i + (n - i + x) ≡ x + n = omega (arith, a.within) in
      again_mod b.period (j + n - i) x ∙ ap v f ∙ sym (e (n - i + x)) ∙ ap u g ∙ pu.again x

  -- and from none before a position below the period
  earliest : (s : ℕ) → s < q → ((x : ℕ) → v (s + x) ≡ u x) → (t : ℕ) → t < s → ((x : ℕ) → v (t + x) ≡ u x) → ⊥
  earliest s h e t m f = b.smallest (s - t) (omega arith) (omega arith) (record {
    again = λ x.
        let k : x + (s - t) + n ≡ s + (x + n - t) = omega (arith, b.most) in
        let l : t + (x + n - t) ≡ x + n = omega (arith, b.most) in
        sym (pv.again (x + (s - t))) ∙ ap v k ∙ e (x + n - t) ∙ sym (f (x + n - t)) ∙ ap v l ∙ pv.again x;
  })

  -- least rotations that differ: v is u from no position on
  nowhere : {k : ℕ} → Apart (from u i) (from v j) n k → k < n → (s : ℕ) → s ≤ n → ((x : ℕ) → v (s + x) ≡ u x) → ⊥
  nowhere {k} d h s m e = ⊎_elim first second (told k d.agree (d.differ h))
    where
      first : Less (from u i) (from v j) → ⊥
      first l =
          let f : from u i ≡ from v (s + i) = fun_ext (λ x. sym (e (i + x)) ∙ ap v (let g : s + (i + x) ≡ s + i + x = omega arith in g)) in
          b.least (s + i) (subst (λ (g : ℕ → ℕ). Less g (from v j)) f l)

      second : Less (from v j) (from u i) → ⊥
      second l =
          let f : from v j ≡ from u (j + n - s) =
          fun_ext (λ x. let g : j + x + n ≡ s + (j + n - s + x) = omega arith in sym (pv.again (j + x)) ∙ ap v g ∙ e (j + n - s + x)) in
          a.least (j + n - s) (subst (λ (g : ℕ → ℕ). Less g (from u i)) f l)

module _ {first second : List ℤ} {n i j p q k : ℕ} (f : Contour first n) (s : Contour second n) (h : 0 < n)
    (a : Least (word first n) n i p) (b : Least (word second n) n j q) (d : Apart (from (word first n) i) (from (word second n) j) n k) where
  -- least rotations that differ
  pub start_none : k < n → n ≡ smallest_start first second n
  start_none m = first_is _ n n (record {
    within = omega arith;
    passes = λ l. absurd (omega arith);
    before = λ t l. refuted _ (λ e. nowhere (word_period first n) (word_period second n) a b d m t (omega arith) (starts_words first second f.on s.on n t h e));
  })

  -- equal least rotations
  pub start_some : n ≤ k → {r : ℕ} → r ≡ (j + n - i) % q → r ≡ smallest_start first second n
  start_some m r =
      let e : (x : ℕ) → word first n (i + x) ≡ word second n (j + x) =
      all_agree (from_period (word_period first n) i) (from_period (word_period second n) j) h (λ x l. d.agree x (omega arith)) in
      let on = found (word_period first n) (word_period second n) a b e in
      let low : (j + n - i) % q < q = mod-lt (j + n - i) b.some in
      r ∙ first_is _ n ((j + n - i) % q) (record {
        within = omega (arith, b.most);
        passes = λ l. words_start first second f.on s.on n ((j + n - i) % q) on;
        before = λ t l. refuted _ (λ g. earliest (word_period first n) (word_period second n) a b ((j + n - i) % q) low on t l (starts_words first second f.on s.on n t h g));
      })
