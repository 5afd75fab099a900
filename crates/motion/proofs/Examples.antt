-- What may change with the start: the decisions of a walk, the turns, the positions that survive, and of a despiking their number.
use mathlib.Core.Path.{◌≡◌, refl}
use mathlib.Core.List.{List, [], ◌∷◌}
use Prim.Native.Nat.{ℕ}
use lib.IntN.{ℤ}
use Rattle.grid.specs.Edges.{cross, dot}
use Rattle.grid.specs.Cases.{row}
use Rattle.ring.specs.declared.Rule.TheVariants.{Collinear, Spike}
use Rattle.ring.specs.Walk.{Walked, survivors_from, others, successor, predecessor, occurrences, unmark, unmark_about, remove, tally, ending, decide, look, looks, walk}
use Rattle.ring.specs.Walk.End.{kept, collapsed}
use Rattle.ring.specs.Rule.{goes_at}
use Rattle.clean.specs.Outcome.{walked}
use Rattle.turned.specs.Starts.{started_at}

-- three points in a line, despiked: 2 decisions, or 1
abbrev three : List ℤ
three = row (1 ∷ 0 ∷ 0 ∷ 0 ∷ 2 ∷ 0 ∷ [])

pub the_despiker_may_decide_less_from_another_start : (walked Spike three ≡ ending collapsed (tally 2 2)) × (walked Spike (started_at 2 three) ≡ ending collapsed (tally 1 1))
unfolding survivors_from others successor predecessor occurrences unmark unmark_about remove decide look looks walk goes_at cross dot
the_despiker_may_decide_less_from_another_start = (refl, refl)

-- four points with two alike, cleaned of straight points: 4 decisions, or 6
abbrev four : List ℤ
four = row (0 ∷ 0 ∷ 0 ∷ 0 ∷ 0 ∷ 1 ∷ 1 ∷ 0 ∷ [])

pub the_collinear_walk_may_decide_more_from_another_start :
    (walked Collinear four ≡ ending (kept (1 ∷ 2 ∷ 3 ∷ [])) (tally 4 4)) × (walked Collinear (started_at 2 four) ≡ ending (kept (0 ∷ 1 ∷ 3 ∷ [])) (tally 6 6))
unfolding survivors_from others successor predecessor occurrences unmark unmark_about remove decide look looks walk goes_at cross dot
the_collinear_walk_may_decide_more_from_another_start = (refl, refl)

-- five points, despiked from each start: four are kept, or three
abbrev from : ℕ → Walked
from k = walked Spike (started_at k (row (0 ∷ 0 ∷ 0 ∷ 1 ∷ 2 ∷ 0 ∷ 0 ∷ 0 ∷ 1 ∷ 0 ∷ [])))

pub the_despiker_may_keep_fewer_from_another_start :
    (from 0 ≡ ending (kept (0 ∷ 1 ∷ 2 ∷ 4 ∷ [])) (tally 7 8))
    × (from 1 ≡ ending (kept (0 ∷ 1 ∷ 3 ∷ 4 ∷ [])) (tally 7 7))
    × (from 2 ≡ ending (kept (0 ∷ 2 ∷ 3 ∷ 4 ∷ [])) (tally 6 6))
    × (from 3 ≡ ending (kept (1 ∷ 2 ∷ 3 ∷ 4 ∷ [])) (tally 5 5))
    × (from 4 ≡ ending (kept (1 ∷ 2 ∷ 3 ∷ [])) (tally 5 5))
unfolding survivors_from others successor predecessor occurrences unmark unmark_about remove decide look looks walk goes_at cross dot
the_despiker_may_keep_fewer_from_another_start = (refl, refl, refl, refl, refl)
