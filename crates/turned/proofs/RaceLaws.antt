-- The race of two starts for the least rotation: how it goes on, and what it shows at its end.
use mathlib.Core.Path.{◌≡◌, sym, ◌∙◌, ap, subst}
use Prim.Native.Nat.{ℕ, zero, suc, ◌+◌, ◌-◌, ◌<◌, ◌≤◌, max}
use native.Mathlib.Omega.{arith}
use native.Mathlib.Decide.{ℕ_discrete, dec_le, dec_lt}
use Rattle.turned.specs.inside.Words.{from, Less, Period, Least, Apart}
use Rattle.turned.specs.inside.Races.{Beaten, Racing}
use Rattle.turned.proofs.WordLaws.{all_agree, from_period, from_again, some_least}

-- where two rotations agree and then differ, so do those that start up to there
skipped : (w : ℕ → ℕ) (i j k : ℕ) → ((x : ℕ) → x < k → w (i + x) ≡ w (j + x)) → w (i + k) < w (j + k) → (d : ℕ) → d ≤ k → Less (from w (i + d)) (from w (j + d))
skipped w i j k same less d h =
    let back : (a x : ℕ) → a + (d + x) ≡ a + d + x = λ a x. omega arith in
    let e : d + (k - d) ≡ k = omega arith in
    record {
      place = k - d;
      before = λ x m. sym (ap w (back i x)) ∙ same (d + x) (omega arith) ∙ ap w (back j x);
      less = rw (← back i (k - d), ← back j (k - d), e) less;
    }

pub begin : {w : ℕ → ℕ} → Racing w 0 1
begin = record { order = omega arith; beaten = λ x h n. absurd (n (omega arith)) }

module _ {w : ℕ → ℕ} {n : ℕ} where
  module _ {i j k : ℕ} (r : Racing w i j) (a : Apart (from w i) (from w j) n k) where
    -- the start i is ahead: none from j to j + k is least
    pub ahead : w (i + k) < w (j + k) → {m : ℕ} → m ≡ j + k + 1 → Racing w i m
    ahead l {m} e = record { order = omega (arith, r.order); beaten = λ x h n. at x h n (dec_lt x j) }
      where
        at : (x : ℕ) → x < m → (x ≡ i → ⊥) → Dec (x < j) → Beaten w x
        at x h n (yes b) = r.beaten x b n
        at x h n (no b) =
            let f : j + (x - j) ≡ x = omega arith in
            record { by = i + (x - j); less = subst (λ (y : ℕ). Less (from w (i + (x - j))) (from w y)) f (skipped w i j k a.agree l (x - j) (omega (arith, e))) }

    -- the start i is behind: none from i to i + k is least
    pub behind : w (j + k) < w (i + k) → {m : ℕ} → m ≡ max j (i + k + 1) → Racing w m (m + 1)
    behind l {m} e = record { order = omega arith; beaten = λ x h n. at x (omega arith) (dec_le i x) (dec_le x (i + k)) }
      where
        at : (x : ℕ) → x < m → Dec (i ≤ x) → Dec (x ≤ i + k) → Beaten w x
        at x h (yes b) (yes c) =
            let f : i + (x - i) ≡ x = omega arith in
            record { by = j + (x - i); less = subst (λ (y : ℕ). Less (from w (j + (x - i))) (from w y)) f (skipped w j i k (λ y s. sym (a.agree y s)) l (x - i) (omega arith)) }
        at x h (no b) c = r.beaten x (omega (arith, r.order)) (λ f. omega arith)
        at x h (yes b) (no c) = r.beaten x (omega (arith, e)) (λ f. omega arith)

  module _ (p : Period w n) (h : 0 < n) where
    -- a start that none beats is not among the beaten ones
    unbeaten : {i j : ℕ} → Racing w i j → (x : ℕ) → x < j → ((y : ℕ) → Less (from w y) (from w x) → ⊥) → x ≡ i
    unbeaten {i} r x m best = go (ℕ_discrete x i)
      where
        go : Dec (x ≡ i) → x ≡ i
        go (yes e) = e
        go (no e) = let b = r.beaten x m e in absurd (best b.by b.less)

    -- the second start is past the end: the first is the only least one
    pub alone : {i j : ℕ} → Racing w i j → n ≤ j → Least w n i n
    alone {i} {j} r past = record {
      within = within;
      least = best;
      some = h;
      most = omega arith;
      period = p;
      smallest = λ q a b s. shorter q a b s (dec_lt (i + q) n);
    }
      where
        one : (x : ℕ) × (x < n) × ((y : ℕ) → Less (from w y) (from w x) → ⊥)
        one = some_least p h

        is : one.0 ≡ i
        is = unbeaten r one.0 (omega (arith, one.1)) one.2

        within : i < n
        within = omega (arith, is, one.1)

        best : (y : ℕ) → Less (from w y) (from w i) → ⊥
        best y l = one.2 y (subst (λ (z : ℕ). Less (from w y) (from w z)) (sym is) l)

        shorter : (q : ℕ) → 0 < q → q < n → Period w q → Dec (i + q < n) → ⊥
        shorter q a b s (yes m) = let e = unbeaten r (i + q) (omega arith) (λ y l. best y (subst (λ (f : ℕ → ℕ). Less (from w y) f) (from_again s i) l)) in omega (arith, e)
        shorter q a b s (no m) =
            let f : i + q - n + n ≡ i + q = omega arith in
            let g : from w (i + q - n) ≡ from w i = sym (from_again p (i + q - n)) ∙ ap (from w) f ∙ from_again s i in
            let e = unbeaten r (i + q - n) (omega (arith, r.order, within)) (λ y l. best y (subst (λ (f : ℕ → ℕ). Less (from w y) f) g l)) in
            omega (arith, e)

    -- both starts agree in all n numbers: they are the first two least ones
    pub level : {i j : ℕ} → Racing w i j → Apart (from w i) (from w j) n n → j < n → Least w n i (j - i)
    level {i} {j} r a inside = record {
      within = omega (arith, r.order);
      least = best;
      some = omega (arith, r.order);
      most = omega arith;
      period = period;
      smallest = λ q a b s. let e = unbeaten r (i + q) (omega arith) (λ y l. best y (subst (λ (f : ℕ → ℕ). Less (from w y) f) (from_again s i) l)) in omega (arith, e);
    }
      where
        along : (x : ℕ) → w (i + x) ≡ w (j + x)
        along = all_agree (from_period p i) (from_period p j) h a.agree

        period : Period w (j - i)
        period = record {
          again = λ x.
              let a : j + (x + n - i) ≡ x + (j - i) + n = omega (arith, r.order) in
              let b : i + (x + n - i) ≡ x + n = omega (arith, r.order) in
              sym (p.again (x + (j - i))) ∙ sym (ap w a) ∙ sym (along (x + n - i)) ∙ ap w b ∙ p.again x;
        }

        -- a least start is the first start, or some periods after it
        back : (m x : ℕ) → x ≤ m → ((y : ℕ) → Less (from w y) (from w x) → ⊥) → Dec (x < j) → from w x ≡ from w i
        back zero x a b (yes c) = ap (from w) (unbeaten r x c b)
        back zero x a b (no c) = absurd (omega (arith, r.order))
        back (suc m) x a b (yes c) = ap (from w) (unbeaten r x c b)
        back (suc m) x a b (no c) =
            let e : x - (j - i) + (j - i) ≡ x = omega (arith, r.order) in
            let f : from w x ≡ from w (x - (j - i)) = sym (ap (from w) e) ∙ from_again period (x - (j - i)) in
            f ∙ back m (x - (j - i)) (omega (arith, r.order)) (λ y l. b y (subst (λ (g : ℕ → ℕ). Less (from w y) g) (sym f) l)) (dec_lt (x - (j - i)) j)

        best : (y : ℕ) → Less (from w y) (from w i) → ⊥
        best y l =
            let one = some_least p h in
            one.2 y (subst (λ (g : ℕ → ℕ). Less (from w y) g) (sym (back one.0 one.0 (omega arith) one.2 (dec_lt one.0 j))) l)
