-- Worked walks that no case of the scope catches.
use mathlib.Core.Path.{◌≡◌, refl}
use mathlib.Core.List.{List, [], ◌∷◌}
use Prim.Native.Nat.{◌/◌}
use lib.IntN.{ℤ}
use lib.ListN.{length}
use Rattle.grid.specs.Edges.{cross, dot}
use Rattle.grid.specs.Cases.{row}
use Rattle.ring.specs.declared.Rule.{Rule}
use Rattle.ring.specs.declared.Rule.TheVariants.{Collinear, Spike}
use Rattle.ring.specs.Walk.{survivors_from, others, successor, predecessor, occurrences, unmark, unmark_about, remove, decide, look, looks, walk, Walked, tally, ending}
use Rattle.ring.specs.Walk.End.{kept}
use Rattle.ring.specs.Rule.{goes_at, goes}

-- the walk of a row
abbrev walked : Rule → List ℤ → Walked
walked rule l = walk (goes rule l) (length l / 2)

-- without unmarking P's new successor this would take 6 decisions, and the next two would keep position 0
successor_decides_again : walked Collinear (row (0 ∷ 0 ∷ 0 ∷ 1 ∷ 1 ∷ 0 ∷ 2 ∷ 0 ∷ [])) ≡ ending (kept (0 ∷ 1 ∷ 2 ∷ [])) (tally 7 7)
unfolding survivors_from others successor predecessor occurrences unmark unmark_about remove decide look looks walk goes_at cross dot
successor_decides_again = refl

successor_goes : walked Collinear (row (0 ∷ 0 ∷ 1 ∷ 0 ∷ 0 ∷ 1 ∷ 2 ∷ 0 ∷ 0 ∷ 0 ∷ 2 ∷ 1 ∷ [])) ≡ ending (kept (1 ∷ 2 ∷ 3 ∷ [])) (tally 12 12)
unfolding survivors_from others successor predecessor occurrences unmark unmark_about remove decide look looks walk goes_at cross dot
successor_goes = refl

successor_goes_despiked : walked Spike (row (1 ∷ 0 ∷ 3 ∷ 0 ∷ 0 ∷ 1 ∷ 2 ∷ 0 ∷ 0 ∷ 0 ∷ [])) ≡ ending (kept (1 ∷ 2 ∷ 3 ∷ [])) (tally 10 10)
unfolding survivors_from others successor predecessor occurrences unmark unmark_about remove decide look looks walk goes_at cross dot
successor_goes_despiked = refl

-- the smallest rings with an idle turn: one visit steps over a marked position
idle_turn : walked Collinear (row (0 ∷ 0 ∷ 0 ∷ 1 ∷ 1 ∷ 0 ∷ 1 ∷ 1 ∷ 1 ∷ 1 ∷ [])) ≡ ending (kept (0 ∷ 1 ∷ 2 ∷ 4 ∷ [])) (tally 7 8)
unfolding survivors_from others successor predecessor occurrences unmark unmark_about remove decide look looks walk goes_at cross dot
idle_turn = refl

idle_turn_despiked : walked Spike (row (0 ∷ 0 ∷ 0 ∷ 1 ∷ 0 ∷ 2 ∷ 1 ∷ 0 ∷ 1 ∷ 0 ∷ [])) ≡ ending (kept (0 ∷ 1 ∷ 2 ∷ 4 ∷ [])) (tally 7 8)
unfolding survivors_from others successor predecessor occurrences unmark unmark_about remove decide look looks walk goes_at cross dot
idle_turn_despiked = refl
