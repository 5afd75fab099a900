-- Worked cases.
use mathlib.Core.Path.{◌≡◌, refl}
use mathlib.Core.List.{List, [], ◌∷◌}
use lib.ListN.{replicate}
use lib.IntN.{ℤ}
use Rattle.grid.specs.Limits.{limit, most, on_grid, all_on_grid}
use Rattle.grid.specs.Points.{points}
use Rattle.grid.specs.Edges.{cross, dot}
use Rattle.grid.specs.Corners.{last, differing, distinct_neighbours, corners_from, corners, some}
use Rattle.replies.specs.Ladder.{first_of}
use Rattle.grid.specs.Cases.{row, W1, W2, W3, W4, W6, W7, W8, W9, W10, W11, W12}
use Rattle.ring.specs.declared.Rule.TheVariants.{Collinear, Spike}
use Rattle.ring.specs.Walk.{survivors_from, others, successor, predecessor, occurrences, unmark, unmark_about, remove, decide, look, looks, walk}
use Rattle.ring.specs.Rule.{goes_at}
use Rattle.clean.specs.Verdicts.{is_simple, spike_free_distinct, no_spikes}
use Rattle.clean.specs.Outcome.{chosen}
use Rattle.buffer.specs.Answers.{counted}
use Rattle.buffer.specs.Spans.{sound_from}
use Rattle.sets.specs.Fates.{fate}
use Rattle.fates.specs.Fates.{shape_fates, fates}
use Rattle.fates.specs.Outcome.{lent, leaving, fates_outcome}

-- W1 to W12, each a shape of its own: the empty one and the two flat ones collapse by either rule
abbrev each_alone : List (List (List ℤ))
each_alone = (W1 ∷ []) ∷ (W2 ∷ []) ∷ (W3 ∷ []) ∷ (W4 ∷ []) ∷ (W6 ∷ []) ∷ (W7 ∷ []) ∷ (W8 ∷ []) ∷ (W9 ∷ []) ∷ (W10 ∷ []) ∷ (W11 ∷ []) ∷ (W12 ∷ []) ∷ []

the_scope's_cases :
    (fates Collinear each_alone ≡ 1 ∷ 1 ∷ 0 ∷ 0 ∷ 0 ∷ 0 ∷ 0 ∷ 0 ∷ 0 ∷ 0 ∷ 1 ∷ [])
    × (fates Spike each_alone ≡ 1 ∷ 1 ∷ 0 ∷ 0 ∷ 0 ∷ 0 ∷ 0 ∷ 0 ∷ 0 ∷ 0 ∷ 1 ∷ [])
unfolding survivors_from others successor predecessor occurrences unmark unmark_about remove decide look looks walk goes_at points cross dot limit most on_grid all_on_grid first_of last differing distinct_neighbours corners_from corners some is_simple spike_free_distinct no_spikes chosen fate shape_fates fates
the_scope's_cases = (refl, refl)

-- a hole that collapses goes alone; behind an outline that does every hole goes, of which none is walked; an empty shape has no contour to tell of
holes :
    (fates Spike ((W9 ∷ W2 ∷ W3 ∷ []) ∷ []) ≡ 0 ∷ 1 ∷ 0 ∷ [])
    × (fates Spike ((W2 ∷ W9 ∷ W2 ∷ []) ∷ [] ∷ (W3 ∷ []) ∷ []) ≡ 1 ∷ 2 ∷ 2 ∷ 0 ∷ [])
    × (fates Spike ((W1 ∷ W3 ∷ []) ∷ []) ≡ 1 ∷ 2 ∷ [])
    × (fates Spike ([] ∷ []) ≡ [])
    × (fates Spike [] ≡ [])
unfolding survivors_from others successor predecessor occurrences unmark unmark_about remove decide look looks walk goes_at points cross dot limit most on_grid all_on_grid first_of last differing distinct_neighbours corners_from corners some is_simple spike_free_distinct no_spikes chosen fate shape_fates fates
holes = (refl, refl, refl, refl, refl)

-- a line with a triangle behind it, then a triangle, in rows of 7s: of the scratch the first nine entries are zeroed, though only the line was walked
in_rows : fates_outcome Collinear (row (0 ∷ 0 ∷ 1 ∷ 0 ∷ 2 ∷ 0 ∷ 0 ∷ 0 ∷ 4 ∷ 0 ∷ 0 ∷ 4 ∷ 0 ∷ 0 ∷ 4 ∷ 0 ∷ 0 ∷ 4 ∷ []))
    ((0 ∷ 3 ∷ []) ∷ (3 ∷ 6 ∷ []) ∷ (6 ∷ 9 ∷ []) ∷ []) ((0 ∷ 2 ∷ []) ∷ (2 ∷ 3 ∷ []) ∷ [])
    (lent (replicate 10 7) (replicate 9 7) (replicate 9 7) (replicate 4 7))
    ≡ leaving (counted 0 1) (lent (0 ∷ 0 ∷ 0 ∷ 0 ∷ 0 ∷ 0 ∷ 0 ∷ 0 ∷ 0 ∷ 7 ∷ []) (replicate 9 0) (replicate 9 0) (1 ∷ 2 ∷ 0 ∷ 7 ∷ []))
unfolding survivors_from others successor predecessor occurrences unmark unmark_about remove decide look looks walk goes_at points cross dot limit most on_grid all_on_grid first_of last differing distinct_neighbours corners_from corners some is_simple spike_free_distinct no_spikes chosen fate shape_fates fates sound_from fates_outcome
in_rows = refl

-- the empty set; and an empty outline, in a row for no fate and in one for one
nothing_told :
    (fates_outcome Spike [] [] [] (lent [] [] [] []) ≡ leaving (counted 0 0) (lent [] [] [] []))
    × (fates_outcome Spike [] ((0 ∷ 0 ∷ []) ∷ []) ((0 ∷ 1 ∷ []) ∷ []) (lent [] [] [] []) ≡ leaving (counted 5 0) (lent [] [] [] []))
    × (fates_outcome Spike [] ((0 ∷ 0 ∷ []) ∷ []) ((0 ∷ 1 ∷ []) ∷ []) (lent [] [] [] (7 ∷ [])) ≡ leaving (counted 0 0) (lent [] [] [] (1 ∷ [])))
unfolding survivors_from others successor predecessor occurrences unmark unmark_about remove decide look looks walk goes_at points cross dot limit most on_grid all_on_grid first_of last differing distinct_neighbours corners_from corners some is_simple spike_free_distinct no_spikes chosen fate shape_fates fates sound_from fates_outcome
nothing_told = (refl, refl, refl)
