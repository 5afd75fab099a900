-- The points at some positions of a row, and what the walk's words say of them.
use mathlib.Core.Path.{◌≡◌, refl, sym, ◌∙◌, ap}
use mathlib.Core.Bool.{Bool}
use mathlib.Core.List.{List, [], ◌∷◌, map}
use Prim.Native.Nat.{ℕ, zero, suc, ◌+◌, ◌-◌, ◌<◌}
use native.Mathlib.Omega.{arith}
use native.Mathlib.Numerals.{add-one}
use lib.IntN.{ℤ}
use lib.ListN.{length, get_or, drop, length-map, get_or-map}
use Rattle.grid.specs.declared.Point.{Point}
use Rattle.grid.specs.Points.{at, origin, points}
use Rattle.grid.specs.Corners.{Corner, corner_in}
use Rattle.grid.specs.Neighbours.{preceding, following, leaving_out}
use Rattle.grid.specs.Domain.{Contour}
use Rattle.grid.proofs.RowLaws.{points_more, points_done}
use Rattle.ring.specs.Walk.{survivors_from, survivors, fresh, to_go}
use Rattle.ring.specs.Rule.{corner_of, goes_in}
use Rattle.ring.specs.Promises.{would_go}
use Rattle.ring.proofs.Filling.{fresh_stands}
use Rattle.ring.proofs.Listed.{to_go_listed}
use Rattle.clean.specs.Outcome.{chosen}

module _ (row : List ℤ) where
  -- the points at the positions s
  abbrev pub picked : List ℕ → List Point
  picked s = map (at row) s

  pub points_chosen : (s : List ℕ) → points (chosen row s) ≡ picked s
  unfolding points chosen
  points_chosen [] = refl
  points_chosen (i ∷ s) = ap (λ (l : List Point). at row i ∷ l) (points_chosen s)

  pub picked_leaving : (s : List ℕ) (j : ℕ) → picked (leaving_out s j) ≡ leaving_out (picked s) j
  picked_leaving [] zero = refl
  picked_leaving [] (suc j) = refl
  picked_leaving (i ∷ s) zero = refl
  picked_leaving (i ∷ s) (suc j) = ap (λ (l : List Point). at row i ∷ l) (picked_leaving s j)

  picked_at : (s : List ℕ) (j : ℕ) → j < length s → get_or (picked s) j origin ≡ at row (get_or s j 0)
  picked_at [] j h = absurd (omega arith)
  picked_at (i ∷ s) zero h = refl
  picked_at (i ∷ s) (suc j) h = picked_at s j (omega arith)

  picked_before : (s : List ℕ) (j : ℕ) → j < length s → preceding origin (picked s) j ≡ at row (preceding 0 s j)
  picked_before s zero h =
      let e : length (picked s) ≡ length s = length-map s (at row) in
      rw e (picked_at s (length s - 1) (omega arith))
  picked_before s (suc j) h = picked_at s j (omega arith)

  picked_after : (s : List ℕ) (j : ℕ) → j < length s → following origin (picked s) j ≡ at row (following 0 s j)
  picked_after s j h = ap (get_or (picked s) (suc j)) (picked_at s 0 (omega arith)) ∙ get_or-map (at row) s (suc j) (get_or s 0 0)

  -- the corner at number j of the list is the one at its positions
  pub picked_corner : (s : List ℕ) (j : ℕ) → j < length s → corner_in (picked s) j ≡ corner_of row (preceding 0 s j) (get_or s j 0) (following 0 s j)
  picked_corner s j h = rw (picked_before s j h, picked_at s j h, picked_after s j h)

  pub would_go_picked : (goes : Corner → Bool) (s : List ℕ) (j : ℕ) → j < length s → would_go (goes_in goes row) s j ≡ goes (corner_in (picked s) j)
  would_go_picked goes s j h = ap goes (sym (picked_corner s j h))

  -- all positions
  module _ {n : ℕ} (c : Contour row n) where
    all_from : (m k : ℕ) → k + m ≡ n → picked (survivors_from k (fresh m)) ≡ drop k (points row)
    unfolding survivors_from
    all_from zero k e = sym (points_done c k (omega arith))
    all_from (suc m) k e =
        rw (points_more c k (omega arith), add-one k)
        (ap (λ (l : List Point). at row k ∷ l) (all_from m (suc k) (omega arith)))

    pub picked_all : picked (survivors (fresh n)) ≡ points row
    picked_all = all_from n 0 (omega arith)

    -- what the rule says of a position of the ring it says of the contour's corner there
    pub ring_corner : (goes : Corner → Bool) (j : ℕ) → j < n → to_go (goes_in goes row) (fresh n) j ≡ goes (corner_in (points row) j)
    ring_corner goes j h =
        let a = fresh_stands n j h in
        to_go_listed (goes_in goes row) a ∙ would_go_picked goes (survivors (fresh n)) j a.inside ∙ ap (λ (l : List Point). goes (corner_in l j)) picked_all
