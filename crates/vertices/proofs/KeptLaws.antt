-- The marks that a walk leaves say which points of its contour are kept.
use mathlib.Core.Path.{◌≡◌, refl, sym, ◌∙◌, ap, ap₂}
use mathlib.Core.Bool.{Bool, true, false, ◌||◌}
use mathlib.Core.List.{List, [], ◌∷◌}
use Prim.Native.Nat.{ℕ, zero, suc, ◌<◌}
use native.Mathlib.Omega.{arith}
use lib.Dec.{ltb}
use lib.ListN.{length, replicate}
use lib.IntN.{ℤ}
use borrow.Author.Tests.{eq-eqb, ne_eqb}
use Rattle.grid.specs.Domain.{count, Contour}
use Rattle.ring.specs.declared.Rule as R
use Rattle.ring.specs.declared.Ending.{Ending}
use Rattle.ring.specs.Walk.{removed, survivors_from, survivors, End, Walked, walk}
use Rattle.ring.specs.Walk.End.{kept, collapsed}
use Rattle.ring.specs.Rule.{goes}
use Rattle.ring.specs.inside.Rows.{Ended, ended_as}
use Rattle.ring.proofs.Ends.{walk_few}
use Rattle.clean.specs.Outcome.{walked}
use Rattle.clean.proofs.OutcomeLaws.{contour_count}
use Rattle.vertices.specs.Vertices.{among, told, kept_by, kept_of}
use Rattle.vertices.specs.inside.Marks.{survive}

-- a position that lies before all that are asked about changes nothing
told_past : (n k i : ℕ) (s : List ℕ) → i < k → told n k (i ∷ s) ≡ told n k s
unfolding told
told_past zero k i s h = refl
told_past (suc n) k i s h =
    ap₂ (λ (b : Bool) (l : List Bool). b ∷ l) (ap (λ (b : Bool). b || among k s) (ne_eqb k i (λ e. omega arith))) (told_past n (suc k) i s (omega arith))

-- no survivor lies before the first position
among_none : (m : List ℕ) (i k : ℕ) → i < k → among i (survivors_from k m) ≡ false
unfolding survivors_from
among_none [] i k h = refl
among_none (x ∷ m) i k h = go (ltb x removed) (among_none m i (suc k) (omega arith))
  where
    go : (b : Bool) → among i (survivors_from (suc k) m) ≡ false
        → among i (elim b [ true ↦ k ∷ survivors_from (suc k) m | false ↦ survivors_from (suc k) m ]) ≡ false
    go true e = ap (λ (b : Bool). b || among i (survivors_from (suc k) m)) (ne_eqb i k (λ z. omega arith)) ∙ e
    go false e = e

-- what is told of the survivors is what the marks say
told_survive : (m : List ℕ) (i : ℕ) → told (length m) i (survivors_from i m) ≡ survive m
unfolding told survivors_from
told_survive [] i = refl
told_survive (x ∷ m) i = go (ltb x removed) (told_survive m (suc i))
  where
    go : (b : Bool) → told (length m) (suc i) (survivors_from (suc i) m) ≡ survive m
        → told (suc (length m)) i (elim b [ true ↦ i ∷ survivors_from (suc i) m | false ↦ survivors_from (suc i) m ]) ≡ b ∷ survive m
    go true e =
        ap₂ (λ (b : Bool) (l : List Bool). b ∷ l) (ap (λ (b : Bool). b || among i (survivors_from (suc i) m)) (eq-eqb i i refl))
        (told_past (length m) (suc i) i (survivors_from (suc i) m) (omega arith) ∙ e)
    go false e = ap₂ (λ (b : Bool) (l : List Bool). b ∷ l) (among_none m i (suc i) (omega arith)) e

none_survive : (n : ℕ) → survive (replicate n removed) ≡ replicate n false
none_survive zero = refl
none_survive (suc n) = ap (λ (l : List Bool). false ∷ l) (none_survive n)

-- a contour of n points
module _ (rule : R.Rule) (c : List ℤ) (n : ℕ) (x : Contour c n) where
  by_end : (e : End) → (walked rule c).end ≡ e → kept_of rule c ≡ kept_by e n
  by_end e w = ap₂ kept_by w (contour_count x)

  fallen : (walked rule c).end ≡ collapsed → (mark : List ℕ) → mark ≡ replicate n removed → survive mark ≡ kept_of rule c
  fallen w mark e = ap survive e ∙ none_survive n ∙ sym (by_end collapsed w)

  pub settled_few : n < 3 → (mark : List ℕ) → mark ≡ replicate n removed → survive mark ≡ kept_of rule c
  settled_few h = fallen (ap (λ (w : Walked). w.end) (walk_few (goes rule c) (count c) (omega (arith, contour_count x))))

  module _ (w : Ending) (mark prev : List ℕ) (e : Ended (goes rule c) n mark prev w) where
    ended_is : walked rule c ≡ ended_as w mark
    ended_is = ap (walk (goes rule c)) (contour_count x) ∙ e.is

    pub settled_fallen : w.kept ≡ false → (exit : List ℕ) → exit ≡ replicate n removed → survive exit ≡ kept_of rule c
    settled_fallen t = let k : (walked rule c).end ≡ collapsed = rw (ended_is, t) in fallen k

    pub settled_kept : w.kept ≡ true → length mark ≡ n → survive mark ≡ kept_of rule c
    settled_kept t l =
        let k : (walked rule c).end ≡ kept (survivors mark) = rw (ended_is, t) in
        sym (told_survive mark 0) ∙ ap (λ (j : ℕ). told j 0 (survivors mark)) l ∙ sym (by_end (kept (survivors mark)) k)
