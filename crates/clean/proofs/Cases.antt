-- What a cleaning leaves in its rows.
use mathlib.Core.Path.{◌≡◌, refl}
use mathlib.Core.List.{List, [], ◌∷◌}
use Prim.Native.Nat.{ℕ}
use lib.ListN.{replicate}
use Rattle.grid.specs.Limits.{limit, most, on_grid, all_on_grid}
use Rattle.grid.specs.Points.{points}
use Rattle.grid.specs.Edges.{cross, dot}
use Rattle.grid.specs.Area.{around, exact}
use Rattle.replies.specs.Ladder.{first_of}
use Rattle.grid.specs.Cases.{row, W2, W4, W10}
use Rattle.ring.specs.declared.Rule.TheVariants.{Collinear, Spike}
use Rattle.ring.specs.Walk.{survivors_from, others, successor, predecessor, occurrences, unmark, unmark_about, remove, decide, look, looks, walk}
use Rattle.ring.specs.Rule.{goes_at}
use Rattle.clean.specs.Outcome.{chosen, answer, Lent, lent, leaving, outcome_by, outcome}

-- rows that are lent, with the same in each row of scratch
abbrev rows : List ℕ → List ℕ → Lent
rows scratch out = lent scratch scratch scratch (row out)

-- W10 has no area, and is kept
w10_kept : outcome Collinear W10 (rows (replicate 4 9) (replicate 8 9)) ≡ leaving (answer 0 4 4 4) (lent (replicate 4 0) (replicate 4 0) (replicate 4 0) W10)
unfolding survivors_from others successor predecessor occurrences unmark unmark_about remove decide look looks walk goes_at cross dot limit most on_grid all_on_grid around exact points first_of chosen outcome_by
w10_kept = refl

-- W4 with rows one entry longer than they must be, holding 9s: what is kept, what is zeroed, and what stands
w4_rows : outcome Collinear W4 (rows (replicate 6 9) (replicate 11 9)) ≡ leaving (answer 0 4 6 6) (rows (0 ∷ 0 ∷ 0 ∷ 0 ∷ 0 ∷ 9 ∷ []) (0 ∷ 0 ∷ 4 ∷ 0 ∷ 4 ∷ 4 ∷ 0 ∷ 4 ∷ 9 ∷ 9 ∷ 9 ∷ []))
unfolding survivors_from others successor predecessor occurrences unmark unmark_about remove decide look looks walk goes_at cross dot limit most on_grid all_on_grid first_of chosen outcome_by
w4_rows = refl

-- W2 collapses after one decision: of rows one entry longer than they must be the output stands, and the scratch is zeroed in front
w2_rows : outcome Collinear W2 (rows (replicate 4 9) (replicate 7 9)) ≡ leaving (answer 7 0 1 1) (rows (0 ∷ 0 ∷ 0 ∷ 9 ∷ []) (replicate 7 9))
unfolding survivors_from others successor predecessor occurrences unmark unmark_about remove decide look looks walk goes_at cross dot limit most on_grid all_on_grid first_of chosen outcome_by
w2_rows = refl

-- nine numbers of output would hold what is kept, and are refused
w4_room : outcome Collinear W4 (rows (replicate 5 9) (replicate 9 9)) ≡ leaving (answer 5 0 0 0) (rows (replicate 5 9) (replicate 9 9))
unfolding limit most on_grid all_on_grid first_of outcome_by
w4_room = refl

w4_scratch : outcome Spike W4 (lent (replicate 5 9) (replicate 4 9) (replicate 5 9) []) ≡ leaving (answer 4 0 0 0) (lent (replicate 5 9) (replicate 4 9) (replicate 5 9) [])
unfolding limit most on_grid all_on_grid first_of outcome_by
w4_scratch = refl
