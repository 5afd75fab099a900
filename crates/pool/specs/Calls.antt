-- The calls of a press: what it is told, and the list after.
use Rattle.std.specs.Prelude.{Bool, true, false, List, [], ◌∷◌, ◌++◌, ℕ, zero, suc, ◌+◌, ◌-◌, max, ltb, ℤ}
use Rattle.replies.specs.Ladder.{Rung, first_of, room}
use Rattle.grid.specs.Limits.{limit}
use Rattle.grid.specs.Domain.{count}
use Rattle.buffer.specs.Refusals.{set}
use Rattle.buffer.specs.Refusals as Sets
use Rattle.pool.specs.Lists.{Entry, entry, capacity, reserve, holding, held, own, other, added, removed}

-- a press adds a contour that is cut by a tool, or removes its newest
pub data Call : Type 0 where
  add : ℕ → List ℤ → Call
  remove : Call

-- 6: a pool that is not sound
abbrev pub unsound : Bool → List Rung
unsound sound = Sets.unsound sound

-- 17: the press's held points would pass the pool less the other's part, which is what the other holds or the reserve
abbrev pub full : ℕ → ℕ → ℕ → List Rung
full mine others n = (ltb (capacity - max others reserve) (mine + holding n), 17) ∷ []

-- there are none
abbrev pub none : List Entry → Bool
none [] = true
none (e ∷ l) = false

-- 18: removing with none left
abbrev pub none_left : List Entry → List Rung
none_left mine = (none mine, 18) ∷ []

-- what adding asks of a contour, of a pool that is sound or not, of what the press and the other hold, and of rows that have room for every pool or not
abbrev pub of_adding : List ℤ → Bool → ℕ → ℕ → Bool → List Rung
of_adding contour sound mine others enough =
    set limit contour sound ++ full mine others (count contour) ++ room enough

-- what a call asks of a pool, by the press's own contours and what the other holds
abbrev pub refusals : Bool → Bool → List Entry → ℕ → Call → List Rung
refusals sound enough mine others (add tool contour) = of_adding contour sound (held mine) others enough
refusals sound enough mine others remove = unsound sound ++ none_left mine

-- what a press is told
abbrev pub told : Bool → ℕ → List Entry → Call → ℕ
told enough p l c = first_of (refusals true enough (own p l) (held (own (other p) l)) c)

-- a call that is not refused
abbrev pub done : ℕ → Call → List Entry → List Entry
done p (add tool contour) l = added (entry p tool contour) l
done p remove l = removed p l

-- by the number of the first refusal: the list after the call, or as it was
abbrev pub unless : ℕ → List Entry → List Entry → List Entry
unless zero after before = after
unless (suc k) after before = before

-- the list after a call
abbrev pub after : Bool → ℕ → Call → List Entry → List Entry
after enough p c l = unless (told enough p l c) (done p c l) l
