-- Neither press ever passes what the other leaves it.
use mathlib.Core.Path.{◌≡◌, refl, ◌∙◌, ap}
use mathlib.Core.Bool.{Bool, true, false}
use mathlib.Core.List.{List, []}
use Prim.Native.Nat.{ℕ, zero, suc, ◌+◌, ◌-◌, ◌≤◌, max}
use native.Mathlib.Omega.{arith}
use lib.Dec.{eqb}
use lib.IntN.{ℤ}
use borrow.Author.Tests.{ltb-false, eqb-true, eqb-false}
use Rattle.replies.specs.Ladder.{first_of}
use Rattle.replies.proofs.LadderLaws.{clear}
use Rattle.grid.specs.Domain.{count}
use Rattle.pool.specs.Lists.{Entry, entry, capacity, reserve, holding, held, if_so, own, other, added, removed, Pressed, Fair}
use Rattle.pool.specs.Calls.{of_adding, Call, told, unless, after}
use Rattle.pool.specs.Calls.Call.{add, remove}
use Rattle.pool.proofs.ListLaws.{own_added, own_removed, removed_others, held-append, held_removed, held_both, every_append, every_removed}

pub held_all : (l : List Entry) → Fair l → held l ≤ capacity
held_all l f = omega (arith, held_both l f.pressed, f.first)

-- a contour that is not refused leaves the other its part
pub fits : (contour : List ℤ) (sound : Bool) (mine others : ℕ) (enough : Bool) → first_of (of_adding contour sound mine others enough) ≡ 0
    → mine + holding (count contour) ≤ capacity - max others reserve
fits contour sound mine others enough e = ltb-false _ _ (clear (of_adding contour sound mine others enough) tt e).1.1.1.1.0

-- what a press holds once a contour is added, if it is its own or the other's
pub held_added : (p q tool : ℕ) (contour : List ℤ) (l : List Entry)
    → held (own q (added (entry p tool contour) l)) ≡ held (own q l) + held (if_so (eqb q p) (entry p tool contour) [])
held_added p q tool contour l = ap held (own_added q (entry p tool contour) l) ∙ held-append (own q l) (if_so (eqb q p) (entry p tool contour) [])

fair_added : (p tool : ℕ) (contour : List ℤ) (l : List Entry) → p ≤ 1 → Fair l
    → held (own p l) + holding (count contour) ≤ capacity - max (held (own (other p) l)) reserve → Fair (added (entry p tool contour) l)
unfolding held
fair_added zero tool contour l b f h = record {
  pressed = every_append Pressed l _ f.pressed (b, tt);
  first = omega (arith, held_added 0 0 tool contour l, held_added 0 1 tool contour l, f.first);
  second = omega (arith, held_added 0 0 tool contour l, held_added 0 1 tool contour l, f.second);
}
fair_added (suc zero) tool contour l b f h = record {
  pressed = every_append Pressed l _ f.pressed (b, tt);
  first = omega (arith, held_added 1 0 tool contour l, held_added 1 1 tool contour l, f.first);
  second = omega (arith, held_added 1 0 tool contour l, held_added 1 1 tool contour l, f.second);
}
fair_added (suc (suc p)) tool contour l b f h = absurd (omega arith)

less : (p q : ℕ) (l : List Entry) → held (own q (removed p l)) ≤ held (own q l)
less p q l = go (eqb q p) refl
  where
    go : (t : Bool) → eqb q p ≡ t → held (own q (removed p l)) ≤ held (own q l)
    go true e = rw (eqb-true q p e) (omega (arith, ap held (own_removed p l), held_removed p (own p l)))
    go false e = omega (arith, ap held (removed_others p q (eqb-false q p e) l))

fair_removed : (p : ℕ) (l : List Entry) → Fair l → Fair (removed p l)
fair_removed p l f = record {
  pressed = every_removed Pressed p l f.pressed;
  first = omega (arith, less p 0 l, less p 1 l, f.first);
  second = omega (arith, less p 0 l, less p 1 l, f.second);
}

-- by the number of the first refusal
pub unless_either : (P : List Entry → Type 0) (r : ℕ) (a b : List Entry) → (r ≡ 0 → P a) → P b → P (unless r a b)
unless_either P zero a b f h = f refl
unless_either P (suc k) a b f h = h

pub fair_after : (enough : Bool) (p : ℕ) (c : Call) (l : List Entry) → p ≤ 1 → Fair l → Fair (after enough p c l)
fair_after enough p (add tool contour) l b f =
    unless_either Fair (told enough p l (add tool contour)) _ l (λ e. fair_added p tool contour l b f (fits contour true _ _ enough e)) f
fair_after enough p remove l b f = unless_either Fair (told enough p l remove) _ l (λ e. fair_removed p l f) f
