-- The loop along a contour's edges that looks for a vertex to go.
use mathlib.Core.Path.{◌≡◌, refl, sym, ◌∙◌, ap₂}
use mathlib.Core.Bool.{true, false}
use mathlib.Core.Logic.{⊎_elim}
use mathlib.Core.List.{List}
use Prim.Native.Nat.{ℕ, suc, ◌+◌, ◌-◌, ◌<◌, ◌≤◌}
use native.Mathlib.Omega.{arith}
use native.Mathlib.Numerals.{add-one}
use lib.IntN.{ℤ}
use Rattle.grid.specs.Limits.{limit}
use Rattle.grid.specs.declared.Edge.{Edge}
use Rattle.grid.specs.Points.{at}
use Rattle.grid.specs.Edges.{between}
use Rattle.grid.specs.Boxes.{box}
use Rattle.grid.specs.Domain.{Contour}
use Rattle.grid.specs.inside.Edges.{Short}
use Rattle.grid.proofs.PointLaws.{at_on}
use Rattle.grid.proofs.EdgeLaws.{corner_short}
use Rattle.grid.proofs.BoxLaws.{ab, bc, cd, da, box_four, box_turns}
use Rattle.ring.specs.declared.Rule.{Rule}
use Rattle.ring.specs.Walk.{fresh, successor, predecessor, to_go}
use Rattle.ring.specs.Rule.{goes_along, goes}
use Rattle.ring.specs.inside.Rows.{FirstStand, Standing}
use Rattle.ring.proofs.Branches.{same?}
use Rattle.ring.proofs.Filling.{fresh_next, fresh_round, fresh_before, fresh_last}
use Rattle.ring.proofs.RuleLaws.{along_turning, goes_edges}

module _ (rule : Rule) (row : List ℤ) where
  -- no vertex before position i is to go, and one edge leads there
  pub record Passed (n : ℕ) (closing to : Edge) (i : ℕ) : Type 0 where
    pub within : i < n
    pub closing_is : closing ≡ between (at row (n - 1)) (at row 0)
    pub to_is : to ≡ between (at row (predecessor (fresh n) i)) (at row i)
    pub stand : FirstStand (goes rule row) n i

  module _ {n : ℕ} (c : Contour row n) where
    pub passed_none : (closing : Edge) → 0 < n → closing ≡ between (at row (n - 1)) (at row 0) → Passed n closing closing 0
    passed_none closing h e = record { within = h; closing_is = e; to_is = rw (fresh_last n h) e; stand = λ j l. absurd (omega arith) }

    module _ {closing to : Edge} {i : ℕ} (w : Passed n closing to i) where
      pub short_on : {from : Edge} (j : ℕ) → from ≡ between (at row i) (at row j) → Short limit to from
      short_on j e = rw (w.to_is, e) (corner_short limit _ _ _ (at_on limit row _ c.on) (at_on limit row i c.on) (at_on limit row j c.on))

      told : {from : Edge} (j : ℕ) → from ≡ between (at row i) (at row j) → successor (fresh n) i ≡ j → goes_along rule to from ≡ to_go (goes rule row) (fresh n) i
      told j e s = ap₂ (goes_along rule) w.to_is e ∙ sym (goes_edges rule (at row (predecessor (fresh n) i)) (at row i) (at row j)) ∙ rw s

      -- the vertex at i is to go
      stopped : to_go (goes rule row) (fresh n) i ≡ true → Standing (goes rule row) n i
      stopped t = record { within = omega (arith, w.within); stand = w.stand; next_goes = λ l. t }

      -- it stands
      one_more : to_go (goes rule row) (fresh n) i ≡ false → FirstStand (goes rule row) n (suc i)
      one_more t j l = ⊎_elim (λ (z : j ≡ i). rw z t) (λ z. w.stand j (omega arith)) (same? j i)

      module _ (l : i < n - 1) {from : Edge} (e : from ≡ between (at row i) (at row (i + 1))) where
        here : goes_along rule to from ≡ to_go (goes rule row) (fresh n) i
        here = told (i + 1) e (fresh_next n i (omega arith) ∙ omega arith)

        pub going_met : goes_along rule to from ≡ true → Standing (goes rule row) n i
        going_met f = stopped (sym here ∙ f)

        pub passed_more : goes_along rule to from ≡ false → Passed n closing from (i + 1)
        passed_more f = rw (add-one i) (record {
          within = omega arith;
          closing_is = w.closing_is;
          to_is = rw (fresh_before n i (omega arith)) (rw (add-one i) at e);
          stand = one_more (sym here ∙ f);
        })

      module _ (l : n - 1 ≤ i) where
        at_last : suc i ≡ n
        at_last = omega (arith, w.within)

        pub closing_from : closing ≡ between (at row i) (at row 0)
        closing_from = let e : n - 1 ≡ i = omega (arith, w.within) in rw e at w.closing_is

        last_told : goes_along rule to closing ≡ to_go (goes rule row) (fresh n) i
        last_told = told 0 closing_from (fresh_round n i at_last)

        pub last_met : goes_along rule to closing ≡ true → Standing (goes rule row) n (n - 1)
        last_met f = let e : n - 1 ≡ i = omega (arith, w.within) in rw e (stopped (sym last_told ∙ f))

        pub passed_all : goes_along rule to closing ≡ false → Standing (goes rule row) n n
        passed_all f = record { within = omega arith; stand = rw at_last at (one_more (sym last_told ∙ f)); next_goes = λ h. absurd (omega arith) }

-- of a box all stand
module _ (rule : Rule) (row : List ℤ) (b : box row ≡ true) where
  four_stand : Contour row 4 → Standing (goes rule row) 4 4
  four_stand c =
      let turns = box_turns row b in
      let none = passed_none rule row c (da row) (omega arith) refl in
      let first = passed_more rule row c none (omega arith) refl (sym (along_turning rule (da row) (ab row) turns.3)) in
      let second = passed_more rule row c first (omega arith) refl (sym (along_turning rule (ab row) (bc row) turns.0)) in
      let third = passed_more rule row c second (omega arith) refl (sym (along_turning rule (bc row) (cd row) turns.1)) in
      passed_all rule row c third (omega arith) (sym (along_turning rule (cd row) (da row) turns.2))

  pub box_stands : {n : ℕ} → Contour row n → Standing (goes rule row) n n
  box_stands c = let e = box_four row c b in rw e (four_stand (rw e at c))
