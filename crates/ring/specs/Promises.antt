-- The words in which the theorems say what a walk leaves.
use Rattle.std.specs.Prelude.{ℕ, zero, suc, ◌<◌, ◌≤◌, ◌≡◌, List, [], ◌∷◌, Bool, true, false, length, get_or, eqb}
use Rattle.grid.specs.Neighbours.{preceding, following, leaving_out}
use Rattle.ring.specs.Walk.{unmarked, mark_at, Survivor, survivors, others, fresh, to_go}

-- Positions from low on and below high, in rising order.
abbrev pub Rising : ℕ → ℕ → List ℕ → Type 0
Rising low high [] = Unit {0}
Rising low high (x ∷ s) = (low ≤ x) × (x < high) × Rising (suc x) high s

-- One position more in front, unmarked or not, of so many up to the last unmarked one: it counts if there is one.
abbrev pub with_front : Bool → ℕ → ℕ
with_front true w = suc w
with_front false zero = 0
with_front false (suc w) = suc (suc w)

-- How many positions of a list there are up to its last unmarked one, which counts. If there is none they are 0.
unfoldable pub to_last_unmarked : List ℕ → List ℕ → ℕ
to_last_unmarked m [] = 0
to_last_unmarked m (q ∷ l) = with_front (eqb (mark_at m q) unmarked) (to_last_unmarked m l)

-- What a walk has yet to visit from p on where nothing goes any more: one round, up to the last unmarked survivor.
abbrev pub idle_round : List ℕ → ℕ → ℕ
idle_round m p = to_last_unmarked m (p ∷ others m p)

module _ (goes : ℕ → ℕ → ℕ → Bool) where
  -- The element at j would go with its neighbours in the list.
  abbrev pub would_go : List ℕ → ℕ → Bool
  would_go s j = goes (preceding 0 s j) (get_or s j 0) (following 0 s j)

  -- No element would.
  abbrev pub Clean : List ℕ → Type 0
  Clean s = (j : ℕ) → j < length s → would_go s j ≡ false

  -- No survivor of a row of marks would go with the survivors beside it.
  abbrev pub NoneToGo : List ℕ → Type 0
  NoneToGo m = (q : ℕ) → Survivor m q → to_go goes m q ≡ false

  module _ (n : ℕ) {X : Type 0} (quantity : List ℕ → X) where
    -- The quantity of a list of positions is the same after any removal that the walk of a ring of n may make.
    abbrev pub Preserved : Type 0
    Preserved = (s : List ℕ) (j : ℕ) → Rising 0 n s → 3 < length s → j < length s → would_go s j ≡ true → quantity (leaving_out s j) ≡ quantity s

    -- A collapse: three positions remain of the ring, one of them would go, and the quantity is still that of the whole ring.
    pub record LastThree : Type 0 where
      pub rest : List ℕ
      pub rising : Rising 0 n rest
      pub three : length rest ≡ 3
      pub j : ℕ
      pub inside : j < 3
      pub goes_now : would_go rest j ≡ true
      pub same : quantity rest ≡ quantity (survivors (fresh n))
