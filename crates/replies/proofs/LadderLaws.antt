-- Down a ladder of refusals: past the rungs that do not hold, to the first that does, or to the foot.
use mathlib.Core.Path.{◌≡◌, refl, sym, ◌∙◌, ap}
use mathlib.Core.Bool.{Bool, true, false, not, ◌&&◌, true≢false}
use mathlib.Core.List.{List, [], ◌∷◌, ◌++◌}
use Prim.Native.Nat.{ℕ, zero, suc, ◌≤◌}
use native.Mathlib.Omega.{arith}
use lib.Dec.{T, leb, eqb-suc-zero}
use borrow.Author.Tests.{leb-true}
use Rattle.integers.proofs.Logic.{and_left, and_right}
use Rattle.replies.specs.Ladder.{Rung, first_of, so_far, room}

pub data First : List Rung → ℕ → Type 0 where
  here : {b : Bool} {k : ℕ} {l : List Rung} → b ≡ true → First ((b, k) ∷ l) k
  past : {b : Bool} {k r : ℕ} {l : List Rung} → b ≡ false → First l r → First ((b, k) ∷ l) r
  foot : First [] 0

pub first_is : (l : List Rung) (r : ℕ) → First l r → r ≡ first_of l
unfolding first_of
first_is ((b, k) ∷ l) r (here e) = rw (e, first_of)
first_is ((b, k) ∷ l) r (past e h) = rw (e, first_of) (first_is l r h)
first_is [] r foot = refl

pub found : (l : List Rung) (r : ℕ) → r ≡ first_of l → First l r
unfolding first_of
found [] r e = rw e foot
found ((true, k) ∷ l) r e = rw e (here refl)
found ((false, k) ∷ l) r e = past refl (found l r e)

-- no rung has the number 0
abbrev pub numbered : List Rung → Bool
numbered [] = true
numbered (r ∷ l) = elim r.1 [ zero ↦ false | suc k ↦ numbered l ]

-- none of the rungs holds
abbrev pub Clear : List Rung → Type 0
Clear [] = Unit {0}
Clear (r ∷ l) = (r.0 ≡ false) × Clear l

pub clear : (l : List Rung) → T (numbered l) → first_of l ≡ 0 → Clear l
unfolding first_of
clear [] n e = tt
clear ((b, zero) ∷ l) n e = absurd n
clear ((true, suc k) ∷ l) n e = absurd (omega arith)
clear ((false, suc k) ∷ l) n e = (refl, clear l n e)

-- a ladder that starts with another: stopped there, or past it
pub stopped : (a b : List Rung) (r : ℕ) → r ≡ first_of a → (r ≡ 0 → ⊥) → First (a ++ b) r
unfolding first_of
stopped [] b r e n = absurd (n e)
stopped ((true, k) ∷ a) b r e n = rw e (here refl)
stopped ((false, k) ∷ a) b r e n = past refl (stopped a b r e n)

pub onward : (a b : List Rung) (r : ℕ) → T (numbered a) → first_of a ≡ 0 → First b r → First (a ++ b) r
unfolding first_of
onward [] b r t e f = f
onward ((c, zero) ∷ a) b r t e f = absurd t
onward ((true, suc k) ∷ a) b r t e f = absurd (omega arith)
onward ((false, suc k) ∷ a) b r t e f = past refl (onward a b r t e f)

-- none of a ladder's rungs holds: none of its first part, and none of the rest
pub cleared : (a b : List Rung) → T (numbered a) → first_of (a ++ b) ≡ 0 → (first_of a ≡ 0) × (first_of b ≡ 0)
unfolding first_of
cleared [] b t e = (refl, e)
cleared ((c, zero) ∷ a) b t e = absurd t
cleared ((true, suc k) ∷ a) b t e = absurd (omega arith)
cleared ((false, suc k) ∷ a) b t e = cleared a b t e

-- no rung's number is above n, and so no refusal's
abbrev pub within : ℕ → List Rung → Bool
within n [] = true
within n (r ∷ l) = leb r.1 n && within n l

pub first_within : (n : ℕ) (l : List Rung) → within n l ≡ true → first_of l ≤ n
unfolding first_of
first_within n [] e = omega arith
first_within n ((true, k) ∷ l) e = leb-true k n (and_left (leb k n) (within n l) e)
first_within n ((false, k) ∷ l) e = first_within n l (and_right (leb k n) (within n l) e)

-- a ladder that starts with another, none of whose rungs holds
pub past_clear : (a b : List Rung) → Clear a → first_of (a ++ b) ≡ first_of b
unfolding first_of
past_clear [] b h = refl
past_clear ((false, k) ∷ a) b h = past_clear a b h.1
past_clear ((true, k) ∷ a) b h = absurd (true≢false h.0)

pub front_clear : (a b : List Rung) → first_of (a ++ b) ≡ 0 → first_of a ≡ 0
unfolding first_of
front_clear [] b e = refl
front_clear ((true, k) ∷ a) b e = e
front_clear ((false, k) ∷ a) b e = front_clear a b e

-- rungs that do not hold, or that stand below one that does, change nothing
pub below_clear : (a b : List Rung) → first_of b ≡ 0 → first_of (a ++ b) ≡ first_of a
unfolding first_of
below_clear [] b e = e
below_clear ((true, k) ∷ a) b e = refl
below_clear ((false, k) ∷ a) b e = below_clear a b e

pub below_held : (a b : List Rung) → (first_of a ≡ 0 → ⊥) → first_of (a ++ b) ≡ first_of a
unfolding first_of
below_held [] b n = absurd (n refl)
below_held ((true, k) ∷ a) b n = refl
below_held ((false, k) ∷ a) b n = below_held a b n

-- ladders that a rung above does not tell apart
pub same_below : (b : Bool) (k : ℕ) (l m : List Rung) → (b ≡ false → first_of l ≡ first_of m) → first_of ((b, k) ∷ l) ≡ first_of ((b, k) ∷ m)
unfolding first_of
same_below true k l m h = refl
same_below false k l m h = h refl

-- a ladder of which only the number is left, and the rungs below it
pub so_far_then : (l b : List Rung) → T (numbered l) → (asked r : ℕ) → asked ≡ first_of l → r ≡ first_of (so_far asked ++ b) → r ≡ first_of (l ++ b)
unfolding first_of
so_far_then l b t zero r e f = f ∙ first_is _ _ (onward l b _ t (sym e) (found b _ refl))
so_far_then l b t (suc k) r e f = f ∙ sym (first_is (so_far (suc k) ++ b) (suc k) (here (ap not (eqb-suc-zero k)))) ∙ first_is _ _ (stopped l b (suc k) e (λ z. omega arith))

-- neither a refusal so far, nor want of room
pub room_clear : (b : Bool) → b ≡ true → first_of (room b) ≡ 0
unfolding first_of
room_clear b e = rw e

pub clear_of : (k : ℕ) (b : Bool) → first_of (so_far k ++ room b) ≡ 0 → (k ≡ 0) × (b ≡ true)
unfolding first_of
clear_of zero true e = (refl, refl)
clear_of zero false e = absurd (omega arith)
clear_of (suc k) b e = absurd (no (first_is (so_far (suc k) ++ room b) (suc k) (here (ap not (eqb-suc-zero k))) ∙ e))
  where
    no : suc k ≡ 0 → ⊥
    no h = omega arith
