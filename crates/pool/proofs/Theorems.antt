-- Two presses that share a pool.
use mathlib.Core.Path.{◌≡◌, refl, sym, ◌∙◌, ap, ap₂}
use mathlib.Core.Bool.{Bool, true, false}
use mathlib.Core.List.{List, [], ◌∷◌, ◌++◌, append-nil}
use Prim.Native.Nat.{ℕ, zero, suc, ◌+◌, ◌-◌, ◌≤◌, max}
use native.Mathlib.Omega.{arith}
use lib.Dec.{eqb}
use lib.IntN.{ℤ}
use borrow.Author.Tests.{eqb-true, eqb-false, eq-eqb, ne_eqb, le-ltb}
use Rattle.replies.specs.Ladder.{first_of}
use Rattle.replies.proofs.LadderLaws.{first_is, clear}
use Rattle.replies.proofs.LadderLaws.First.{here, past, foot}
use Rattle.grid.specs.Limits.{limit}
use Rattle.grid.specs.Domain.{count, domain}
use Rattle.pool.specs.Lists.{Entry, entry, capacity, reserve, holding, held, if_so, own, other, free, Fair}
use Rattle.pool.specs.Calls.{none, refusals, Call, told, done, unless, after}
use Rattle.pool.specs.Calls.Call.{add, remove}
use Rattle.pool.specs.Promises.{Made, ByTwo, run, heard, Seen, seen, told_free, alone, own_set}
use Rattle.pool.proofs.ListLaws.{own_added, own_removed, removed_others, held_both}
use Rattle.pool.proofs.FairLaws.{held_all, fair_after, unless_either}

-- the other press's contours, read in order, are the same before and after any call
done_apart : (p q : ℕ) (c : Call) (l : List Entry) → (q ≡ p → ⊥) → own q (done p c l) ≡ own q l
done_apart p q (add tool contour) l n =
    own_added q (entry p tool contour) l ∙ ap (λ (t : Bool). own q l ++ if_so t (entry p tool contour) []) (ne_eqb q p n) ∙ append-nil (own q l)
done_apart p q remove l n = removed_others p q n l

pub others_stay : (enough : Bool) (p q : ℕ) (c : Call) (l : List Entry) → (q ≡ p → ⊥) → own q (after enough p c l) ≡ own q l
others_stay enough p q c l n = unless_either (λ (k : List Entry). own q k ≡ own q l) (told enough p l c) (done p c l) l (λ e. done_apart p q c l n) refl

-- a press's own are as its calls leave them, whatever stands between them
done_own : (p : ℕ) (c : Call) (l : List Entry) → own p (done p c l) ≡ done p c (own p l)
done_own p (add tool contour) l =
    own_added p (entry p tool contour) l ∙ ap (λ (t : Bool). own p l ++ if_so t (entry p tool contour) []) (eq-eqb p p refl)
done_own p remove l = own_removed p l

own_after : (enough : Bool) (p : ℕ) (c : Call) (l : List Entry) → own p (after enough p c l) ≡ unless (told enough p l c) (done p c (own p l)) (own p l)
own_after enough p c l = go (told enough p l c)
  where
    go : (r : ℕ) → own p (unless r (done p c l) l) ≡ unless r (done p c (own p l)) (own p l)
    go zero = done_own p c l
    go (suc k) = refl

-- what a press is told is told by its own contours and the free count
others_hold : (p : ℕ) (l : List Entry) → p ≤ 1 → Fair l → held (own (other p) l) ≡ capacity - held (own p l) - free l
others_hold zero l b f = omega (arith, held_both l f.pressed, f.first)
others_hold (suc zero) l b f = omega (arith, held_both l f.pressed, f.first)
others_hold (suc (suc p)) l b f = absurd (omega arith)

pub told_by_free : (enough : Bool) (p : ℕ) (c : Call) (l : List Entry) → p ≤ 1 → Fair l → told enough p l c ≡ told_free enough (own p l) (free l) c
told_by_free enough p c l b f = ap (λ (o : ℕ). first_of (refusals true enough (own p l) o c)) (others_hold p l b f)

-- in two pools with the same contours of its own and the same free count it is told the same
pub told_alike : (enough : Bool) (p : ℕ) (c : Call) (l m : List Entry) → p ≤ 1 → Fair l → Fair m
    → own p l ≡ own p m → free l ≡ free m → told enough p l c ≡ told enough p m c
told_alike enough p c l m b f g e d =
    told_by_free enough p c l b f ∙ ap₂ (λ (k : List Entry) (n : ℕ). told_free enough k n c) e d ∙ sym (told_by_free enough p c m b g)

-- one call of a history: the press's own contours are as if it had made its own calls alone
module _ (enough : Bool) (p : ℕ) (m : Made) (l : List Entry) (b : p ≤ 1) (f : Fair l) where
  abbrev next : List Entry
  next = own p (after enough m.press m.call l)

  of_its_own : eqb p m.press ≡ true → next ≡ unless (told_free enough (own p l) (free l) m.call) (done p m.call (own p l)) (own p l)
  of_its_own e =
      ap (λ (q : ℕ). own p (after enough q m.call l)) (sym (eqb-true p m.press e)) ∙ own_after enough p m.call l
      ∙ ap (λ (r : ℕ). unless r (done p m.call (own p l)) (own p l)) (told_by_free enough p m.call l b f)

  of_the_other : eqb p m.press ≡ false → next ≡ own p l
  of_the_other e = others_stay enough m.press p m.call l (eqb-false p m.press e)

  heard_more : (x : List ℕ) (s : List Seen) → x ≡ alone enough p s next → (t : Bool) → eqb p m.press ≡ t
      → if_so t (told enough p l m.call) x ≡ alone enough p (if_so t (record { call = m.call; free = free l }) s) (own p l)
  unfolding alone
  heard_more x s ih true e = ap₂ (λ (r : ℕ) (k : List ℕ). r ∷ k) (told_by_free enough p m.call l b f) (ih ∙ ap (alone enough p s) (of_its_own e))
  heard_more x s ih false e = ih ∙ ap (alone enough p s) (of_the_other e)

  own_more : (x : List Entry) (s : List Seen) → x ≡ own_set enough p s next → (t : Bool) → eqb p m.press ≡ t
      → x ≡ own_set enough p (if_so t (record { call = m.call; free = free l }) s) (own p l)
  unfolding own_set
  own_more x s ih true e = ih ∙ ap (own_set enough p s) (of_its_own e)
  own_more x s ih false e = ih ∙ ap (own_set enough p s) (of_the_other e)

-- in a whole history a press is told by its own calls and the free counts that it found
pub heard_alone : (enough : Bool) (p : ℕ) (h : List Made) (l : List Entry) → p ≤ 1 → ByTwo h → Fair l
    → heard enough p h l ≡ alone enough p (seen enough p h l) (own p l)
unfolding heard seen alone
heard_alone enough p [] l b two f = refl
heard_alone enough p (m ∷ h) l b two f =
    heard_more enough p m l b f _ _
    (heard_alone enough p h (after enough m.press m.call l) b two.1 (fair_after enough m.press m.call l two.0 f))
    (eqb p m.press) refl

-- and it has, contour for contour, what the same calls leave in a set of its own
pub owned_alone : (enough : Bool) (p : ℕ) (h : List Made) (l : List Entry) → p ≤ 1 → ByTwo h → Fair l
    → own p (run enough h l) ≡ own_set enough p (seen enough p h l) (own p l)
unfolding run seen own_set
owned_alone enough p [] l b two f = refl
owned_alone enough p (m ∷ h) l b two f =
    own_more enough p m l b f _ _
    (owned_alone enough p h (after enough m.press m.call l) b two.1 (fair_after enough m.press m.call l two.0 f))
    (eqb p m.press) refl

-- the total never passes the pool
pub fair_run : (enough : Bool) (h : List Made) (l : List Entry) → ByTwo h → Fair l → Fair (run enough h l)
unfolding run
fair_run enough [] l two f = f
fair_run enough (m ∷ h) l two f = fair_run enough h _ two.1 (fair_after enough m.press m.call l two.0 f)

pub fair_fresh : Fair []
unfolding own held
fair_fresh = record { pressed = tt; first = omega arith; second = omega arith }

pub never_over : (enough : Bool) (h : List Made) → ByTwo h → held (run enough h []) ≤ capacity
never_over enough h two = held_all _ (fair_run enough h [] two fair_fresh)

-- and each press can always get what is kept for it
kept_left : (p n : ℕ) (l : List Entry) → p ≤ 1 → Fair l → held (own p l) + holding n ≤ reserve → held (own p l) + holding n ≤ capacity - max (held (own (other p) l)) reserve
kept_left zero n l b f h = omega (arith, f.second)
kept_left (suc zero) n l b f h = omega (arith, f.first)
kept_left (suc (suc p)) n l b f h = absurd (omega arith)

pub kept_for_each : (p tool : ℕ) (contour : List ℤ) (l : List Entry) → p ≤ 1 → Fair l → first_of (domain limit contour) ≡ 0
    → held (own p l) + holding (count contour) ≤ reserve → told true p l (add tool contour) ≡ 0
kept_for_each p tool contour l b f d h =
    let c = clear (domain limit contour) tt d in
    sym (first_is _ 0 (past c.0 (past c.1.0 (past refl (past c.1.1.0 (past (le-ltb _ _ (kept_left p (count contour) l b f h)) (past refl foot)))))))

-- with rows that are long enough 5 is never told, whatever they hold, and else to every contour that nothing else refuses
adding_not_five : (a b c d : Bool) → first_of ((a, 1) ∷ (b, 2) ∷ (false, 6) ∷ (c, 3) ∷ (d, 17) ∷ (false, 5) ∷ []) ≡ 5 → ⊥
unfolding first_of
adding_not_five true b c d e = omega arith
adding_not_five false true c d e = omega arith
adding_not_five false false true d e = omega arith
adding_not_five false false false true e = omega arith
adding_not_five false false false false e = omega arith

removing_not_five : (b : Bool) → first_of ((false, 6) ∷ (b, 18) ∷ []) ≡ 5 → ⊥
unfolding first_of
removing_not_five true e = omega arith
removing_not_five false e = omega arith

pub never_five : (p : ℕ) (c : Call) (l : List Entry) → told true p l c ≡ 5 → ⊥
never_five p (add tool contour) l e = adding_not_five _ _ _ _ e
never_five p remove l e = removing_not_five (none (own p l)) e

pub five_if_short : (p tool : ℕ) (contour : List ℤ) (l : List Entry) → told true p l (add tool contour) ≡ 0 → told false p l (add tool contour) ≡ 5
five_if_short p tool contour l e =
    let c = clear (refusals true true (own p l) (held (own (other p) l)) (add tool contour)) tt e in
    sym
    (first_is (refusals true false (own p l) (held (own (other p) l)) (add tool contour)) 5
    (past c.0 (past c.1.0 (past c.1.1.0 (past c.1.1.1.0 (past c.1.1.1.1.0 (here refl)))))))
