-- Kinds and the commands that they are, read from the front of their row.
use mathlib.Core.Path.{◌≡◌, refl}
use mathlib.Core.Bool.{Bool, true, false}
use mathlib.Core.List.{List, [], ◌∷◌}
use Prim.Native.Nat.{ℕ, zero, suc, ◌+◌, ◌*◌, ◌<◌, ◌≤◌}
use native.Mathlib.Omega.{arith}
use native.Mathlib.Numerals.{add-one}
use lib.Dec.{ltb}
use lib.ListN.{length, get_or, drop}
use lib.Seq.{drop-cons, drop-drop, drop-length}
use lib.Ieee.{Float}
use mir.Val.{bool_byte}
use borrow.Author.Tests.{le-ltb}
use Rattle.drawing.specs.Commands.{item, brought, asked, items}
use Rattle.drawing.specs.Commands.Item.{no_command}
use Rattle.drawing.specs.Faults.{opens}

pub brought_two : (k : ℕ) → k < 2 → brought k ≡ 2
unfolding brought
brought_two zero h = refl
brought_two (suc zero) h = refl
brought_two (suc (suc k)) h = absurd (omega arith)

pub brought_none : (k : ℕ) → 2 ≤ k → brought k ≡ 0
unfolding brought
brought_none zero h = absurd (omega arith)
brought_none (suc zero) h = absurd (omega arith)
brought_none (suc (suc k)) h = refl

-- counted in places
pub at_most_one : (b : Bool) → bool_byte b ≤ 1
at_most_one true = omega arith
at_most_one false = omega arith

pub brought_counted : (k : ℕ) → 2 * bool_byte (ltb k 2) ≡ brought k
unfolding brought
brought_counted zero = refl
brought_counted (suc zero) = refl
brought_counted (suc (suc k)) = rw (le-ltb (suc (suc k)) 2 (omega arith))

pub no_kind : (k : ℕ) (floats : List Float) → 2 < k → item k floats ≡ no_command
unfolding item
no_kind zero floats h = absurd (omega arith)
no_kind (suc zero) floats h = absurd (omega arith)
no_kind (suc (suc zero)) floats h = absurd (omega arith)
no_kind (suc (suc (suc k))) floats h = refl

-- behind a Move or a Line a contour is open
pub opens_is : (k : ℕ) (floats : List Float) → ltb k 2 ≡ opens (item k floats)
unfolding item
opens_is zero floats = refl
opens_is (suc zero) floats = refl
opens_is (suc (suc zero)) floats = refl
opens_is (suc (suc (suc k))) floats = le-ltb (suc (suc (suc k))) 2 (omega arith)

-- what is left of the rows: one kind more is met, or none is left
module _ (kinds : List ℕ) (i : ℕ) where
  module _ (h : i < length kinds) where
    pub asked_more : asked (drop i kinds) ≡ brought (get_or kinds i 0) + asked (drop (i + 1) kinds)
    unfolding asked
    asked_more = rw (drop-cons kinds i 0 h, add-one i)

    pub items_more : (floats : List Float) (at : ℕ)
        → items (drop i kinds) (drop at floats) ≡ item (get_or kinds i 0) (drop at floats) ∷ items (drop (i + 1) kinds) (drop (at + brought (get_or kinds i 0)) floats)
    unfolding items
    items_more floats at = rw (drop-cons kinds i 0 h, add-one i, drop-drop (brought (get_or kinds i 0)) at floats)

  pub asked_done : i ≡ length kinds → asked (drop i kinds) ≡ 0
  unfolding asked
  asked_done e = rw (e, drop-length kinds)

  pub items_done : i ≡ length kinds → (floats : List Float) → items (drop i kinds) floats ≡ []
  unfolding items
  items_done e floats = rw (e, drop-length kinds)
