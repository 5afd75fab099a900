-- Worked figures.
use mathlib.Core.Path.{◌≡◌, refl}
use mathlib.Core.List.{List, [], ◌∷◌, ◌++◌}
use Prim.Native.Nat.{ℕ, ◌-◌, ◌^◌}
use lib.ListN.{replicate}
use lib.IntN.{ℤ, pos, negsuc}
use Rattle.integers.specs.Modulo.{mod64}
use Rattle.grid.specs.Limits.{limit, most, on_grid, all_on_grid}
use Rattle.grid.specs.Points.{points}
use Rattle.grid.specs.Edges.{cross, dot}
use Rattle.grid.specs.Area.{around, exact, wrapped}
use Rattle.replies.specs.Ladder.{first_of}
use Rattle.grid.specs.Cases.{row, W1, W2, W4}
use Rattle.ring.specs.declared.Rule.TheVariants.{Collinear, Spike}
use Rattle.ring.specs.Walk.{survivors_from, others, successor, predecessor, occurrences, unmark, unmark_about, remove, decide, look, looks, walk}
use Rattle.ring.specs.Rule.{goes_at}
use Rattle.clean.specs.Outcome.{chosen, lent}
use Rattle.buffer.specs.Spans.{sound_from}
use Rattle.figures.specs.declared.answer.Figures.{Figures}
use Rattle.figures.specs.Halves.{high, low}
use Rattle.figures.specs.Entries.{entry, contour_entry, Found, all_entries}
use Rattle.figures.specs.Batch.{tally, sum_of, areas, figures_of, batch_figures}
use Rattle.figures.specs.Joining.{total, added_up, sum, possible, fits, added, joined_figures}
use Rattle.figures.specs.Adding.{outputs, leaving, add_outcome}

-- -1 is -1·2^32 + 4,294,967,295, and -2^32 - 1 is -2·2^32 + 4,294,967,295; -2^63 and 2^63 - 1 have no rest that is cut
halves :
    (high (negsuc 0) ≡ negsuc 0) × (low (negsuc 0) ≡ 4294967295)
    × (high (negsuc (2 ^ 32)) ≡ negsuc 1) × (low (negsuc (2 ^ 32)) ≡ 4294967295)
    × (high (negsuc (2 ^ 63 - 1)) ≡ negsuc 2147483647) × (low (negsuc (2 ^ 63 - 1)) ≡ 0)
    × (high (pos (2 ^ 63 - 1)) ≡ pos 2147483647) × (low (pos (2 ^ 63 - 1)) ≡ 4294967295)
unfolding high low
halves = (refl, refl, refl, refl, refl, refl, refl, refl)

-- figures with so many of reply 0, of 7, of 6, and the other numbers
abbrev told : ℕ → ℕ → ℕ → ℕ → ℕ → ℕ → ℤ → ℕ → Figures
told kept collapsed unsound before after decisions h l = record {
  totals = kept ∷ 0 ∷ 0 ∷ 0 ∷ 0 ∷ 0 ∷ unsound ∷ collapsed ∷ replicate 14 0;
  before = before;
  after = after;
  decisions = decisions;
  high = h;
  low = l;
}

-- a triangle that is wound clockwise
abbrev clockwise : List ℤ
clockwise = row (0 ∷ 0 ∷ 0 ∷ 4 ∷ 4 ∷ 0 ∷ [])

-- a contour that is kept by either walk, an empty one, a flat one, and one of an area below 0
entries_of_contours :
    (contour_entry Collinear W4 ≡ entry 0 5 4 6 (pos 32))
    × (contour_entry Spike W4 ≡ entry 0 5 5 5 (pos 32))
    × (contour_entry Collinear W1 ≡ entry 7 0 0 0 (pos 0))
    × (contour_entry Collinear W2 ≡ entry 7 3 0 1 (pos 0))
    × (contour_entry Spike clockwise ≡ entry 0 3 3 3 (negsuc 15))
unfolding survivors_from others successor predecessor occurrences unmark unmark_about remove decide look looks walk goes_at points cross dot around exact wrapped mod64
entries_of_contours = (refl, refl, refl, refl, refl)

-- a set of three contours, one that is refused, whose contours do not count, and one of none
first_week : List Found
first_week =
    record { rule = Collinear; refusal = 0; contours = W4 ∷ W2 ∷ W1 ∷ [] }
    ∷ record { rule = Collinear; refusal = 6; contours = W4 ∷ [] }
    ∷ record { rule = Spike; refusal = 0; contours = [] }
    ∷ []

second_week : List Found
second_week = record { rule = Spike; refusal = 0; contours = clockwise ∷ clockwise ∷ clockwise ∷ [] } ∷ []

batches :
    (batch_figures [] ≡ told 0 0 0 0 0 0 (pos 0) 0)
    × (batch_figures first_week ≡ told 1 2 1 8 4 7 (pos 0) 32)
    × (batch_figures second_week ≡ told 3 0 0 9 9 9 (negsuc 0) 4294967248)
    × (batch_figures (first_week ++ second_week) ≡ told 4 2 1 17 13 16 (negsuc 0) 4294967280)
unfolding survivors_from others successor predecessor occurrences unmark unmark_about remove decide look looks walk goes_at points cross dot around exact wrapped mod64 high low all_entries tally sum_of areas figures_of first_week second_week
batches = (refl, refl, refl, refl)

-- both weeks joined, the carry among them, and 65,535 counted, which one more would pass; a field beyond what sets can have is 21 too
joinings :
    (joined_figures (told 1 2 1 8 4 7 (pos 0) 32) (told 3 0 0 9 9 9 (negsuc 0) 4294967248) ≡ added 0 (told 4 2 1 17 13 16 (negsuc 0) 4294967280))
    × (joined_figures (told 65534 0 0 0 0 0 (pos 0) 0) (told 0 1 0 0 0 0 (pos 0) 0) ≡ added 0 (told 65534 1 0 0 0 0 (pos 0) 0))
    × (joined_figures (told 65534 0 1 0 0 0 (pos 0) 0) (told 0 1 0 0 0 0 (pos 0) 0) ≡ added 21 (told 65534 0 1 0 0 0 (pos 0) 0))
    × (joined_figures (told 1 0 0 4294901760 0 0 (pos 0) 0) (told 0 0 0 0 0 0 (pos 0) 0) ≡ added 0 (told 1 0 0 4294901760 0 0 (pos 0) 0))
    × (joined_figures (told 1 0 0 4294901761 0 0 (pos 0) 0) (told 0 0 0 0 0 0 (pos 0) 0) ≡ added 21 (told 1 0 0 4294901761 0 0 (pos 0) 0))
    × (joined_figures (told 0 0 0 0 0 0 (pos 0) 0) (told 1 0 0 0 0 0 (pos 140735340871680) 0) ≡ added 21 (told 0 0 0 0 0 0 (pos 0) 0))
unfolding high low total added_up sum possible fits joined_figures first_of
joinings = (refl, refl, refl, refl, refl, refl)

-- the rows of 7s that are lent
abbrev seven : ℕ → List ℤ
seven n = row (replicate n 7)

-- two contours in rows: the kept one's points stand in front of the output, and the scratch of all points is zeroed
in_rows : add_outcome (told 1 0 0 3 3 3 (negsuc 0) 4294967280) Collinear (W4 ++ W2) ((0 ∷ 5 ∷ []) ∷ (5 ∷ 8 ∷ []) ∷ [])
    (lent (replicate 9 7) (replicate 8 7) (replicate 8 7) (seven 16))
    ≡ leaving (added 0 (told 2 1 0 11 7 10 (pos 0) 16))
    (lent (0 ∷ 0 ∷ 0 ∷ 0 ∷ 0 ∷ 0 ∷ 0 ∷ 0 ∷ 7 ∷ []) (replicate 8 0) (replicate 8 0) (row (0 ∷ 0 ∷ 4 ∷ 0 ∷ 4 ∷ 4 ∷ 0 ∷ 4 ∷ []) ++ seven 8))
unfolding survivors_from others successor predecessor occurrences unmark unmark_about remove decide look looks walk goes_at points cross dot around exact wrapped mod64 limit most on_grid all_on_grid first_of sound_from chosen high low tally sum_of areas figures_of total added_up sum possible fits outputs add_outcome
in_rows = refl

-- ranges that are not sound count under 6; short scratch under 4, a short output under 5; a set that would be too many is 21, refused or not, and one of no contours never
counted_once :
    (add_outcome (told 1 0 0 3 3 3 (pos 0) 0) Collinear W4 ((0 ∷ 4 ∷ []) ∷ []) (lent [] [] [] []) ≡ leaving (added 0 (told 1 0 1 3 3 3 (pos 0) 0)) (lent [] [] [] []))
    × (add_outcome (told 65535 0 0 0 0 0 (pos 0) 0) Collinear W4 ((0 ∷ 4 ∷ []) ∷ []) (lent [] [] [] []) ≡ leaving (added 21 (told 65535 0 0 0 0 0 (pos 0) 0)) (lent [] [] [] []))
    × (add_outcome (told 65535 0 0 0 0 0 (pos 0) 0) Collinear [] ((0 ∷ 0 ∷ []) ∷ []) (lent [] [] [] []) ≡ leaving (added 21 (told 65535 0 0 0 0 0 (pos 0) 0)) (lent [] [] [] []))
    × (add_outcome (told 65535 0 0 0 0 0 (pos 0) 0) Collinear [] [] (lent [] [] [] []) ≡ leaving (added 0 (told 65535 0 0 0 0 0 (pos 0) 0)) (lent [] [] [] []))
    × ((add_outcome (told 0 0 0 0 0 0 (pos 0) 0) Collinear W2 ((0 ∷ 3 ∷ []) ∷ []) (lent (replicate 3 7) (replicate 2 7) (replicate 3 7) (seven 6))).answer.figures.totals
    ≡ 0 ∷ 0 ∷ 0 ∷ 0 ∷ 1 ∷ replicate 17 0)
    × ((add_outcome (told 0 0 0 0 0 0 (pos 0) 0) Collinear W2 ((0 ∷ 3 ∷ []) ∷ []) (lent (replicate 3 7) (replicate 3 7) (replicate 3 7) (seven 5))).answer.figures.totals
    ≡ 0 ∷ 0 ∷ 0 ∷ 0 ∷ 0 ∷ 1 ∷ replicate 16 0)
unfolding survivors_from others successor predecessor occurrences unmark unmark_about remove decide look looks walk goes_at points cross dot around exact wrapped mod64 limit most on_grid all_on_grid first_of sound_from chosen high low tally sum_of areas figures_of total added_up sum possible fits outputs add_outcome
counted_once = (refl, refl, refl, refl, refl, refl)
