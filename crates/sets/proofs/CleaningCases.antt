-- Worked cases of the fates.
use Rattle.std.proofs.Common.{◌≡◌, List, [], ◌∷◌, ◌++◌, replicate, ℤ, refl}
use Rattle.grid.specs.Limits.{limit, most, on_grid, all_on_grid}
use Rattle.grid.specs.Points.{points}
use Rattle.grid.specs.Edges.{cross, dot}
use Rattle.grid.specs.Corners.{last, differing, distinct_neighbours, corners_from, corners, some}
use Rattle.replies.specs.Ladder.{first_of}
use Rattle.grid.specs.Cases.{row, W3, W4, W7, W9}
use Rattle.ring.specs.declared.Rule.TheVariants.{Collinear, Spike}
use Rattle.ring.specs.Walk.{survivors_from, others, successor, predecessor, occurrences, unmark, unmark_about, remove, tally, decide, look, looks, walk}
use Rattle.ring.specs.Rule.{goes_at}
use Rattle.clean.specs.Verdicts.{is_simple, spike_free_distinct, no_spikes}
use Rattle.clean.specs.Outcome.{chosen}
use Rattle.buffer.specs.Spans.{laid, sound_from}
use Rattle.buffer.specs.Sets.{joined}
use Rattle.sets.specs.Fates.{none_counted, fate, later, shape_fate, shapes_fate}
use Rattle.sets.specs.Fates.Fate.{stays}
use Rattle.sets.specs.Fates.ShapeFate.{fallen}
use Rattle.sets.specs.Outcome.{answer, shape_outcome, shapes_outcome}

abbrev square : List ℤ
square = row (0 ∷ 0 ∷ 9 ∷ 0 ∷ 9 ∷ 9 ∷ 0 ∷ 9 ∷ [])

abbrev line : List ℤ
line = row (0 ∷ 0 ∷ 2 ∷ 0 ∷ 4 ∷ 0 ∷ [])

-- the duplicate of W7 stays, after 0 decisions and 0 turns
w7_stays : fate Spike W7 ≡ stays W7 none_counted
unfolding limit most on_grid all_on_grid points cross dot last differing distinct_neighbours corners_from corners some first_of spike_free_distinct no_spikes fate
w7_stays = refl

-- a shape that starts with a line falls with it, whatever follows
line_falls : shape_fate Collinear (line ∷ W4 ∷ []) ≡ fallen (tally 1 1)
unfolding survivors_from others successor predecessor occurrences unmark unmark_about remove decide look looks walk goes_at points cross dot limit most on_grid all_on_grid first_of last differing distinct_neighbours corners_from corners some is_simple chosen fate later shape_fate
line_falls = refl

-- the line with W3 behind it, in rows of 9s: 7 leaves every output row as it was, and of the scratch the first six entries are zeroed
line_and_w3 : shape_outcome Collinear (line ++ W3) ((0 ∷ 3 ∷ []) ∷ (3 ∷ 6 ∷ []) ∷ [])
    (record { next = replicate 7 9; prev = replicate 7 9; mark = replicate 7 9; points = row (replicate 13 9); contours = replicate 3 (9 ∷ 9 ∷ []); shapes = [] })
    ≡ record {
      answer = answer 7 0 0 0 1 1;
      rows = record {
        next = 0 ∷ 0 ∷ 0 ∷ 0 ∷ 0 ∷ 0 ∷ 9 ∷ [];
        prev = 0 ∷ 0 ∷ 0 ∷ 0 ∷ 0 ∷ 0 ∷ 9 ∷ [];
        mark = 0 ∷ 0 ∷ 0 ∷ 0 ∷ 0 ∷ 0 ∷ 9 ∷ [];
        points = row (replicate 13 9);
        contours = replicate 3 (9 ∷ 9 ∷ []);
        shapes = [];
      };
    }
unfolding survivors_from others successor predecessor occurrences unmark unmark_about remove decide look looks walk goes_at points cross dot limit most on_grid all_on_grid first_of last differing distinct_neighbours corners_from corners some is_simple chosen fate later shape_fate shape_outcome laid joined sound_from
line_and_w3 = refl

-- W4, then the square: the square's range is shifted down
w4_and_square : shape_outcome Collinear (row (0 ∷ 0 ∷ 2 ∷ 0 ∷ 4 ∷ 0 ∷ 4 ∷ 4 ∷ 0 ∷ 4 ∷ 0 ∷ 0 ∷ 9 ∷ 0 ∷ 9 ∷ 9 ∷ 0 ∷ 9 ∷ [])) ((0 ∷ 5 ∷ []) ∷ (5 ∷ 9 ∷ []) ∷ [])
    (record { next = replicate 10 7; prev = replicate 10 7; mark = replicate 10 7; points = row (replicate 19 7); contours = replicate 3 (7 ∷ 7 ∷ []); shapes = [] })
    ≡ record {
      answer = answer 0 8 2 1 6 6;
      rows = record {
        next = 0 ∷ 0 ∷ 0 ∷ 0 ∷ 0 ∷ 0 ∷ 0 ∷ 0 ∷ 0 ∷ 7 ∷ [];
        prev = 0 ∷ 0 ∷ 0 ∷ 0 ∷ 0 ∷ 0 ∷ 0 ∷ 0 ∷ 0 ∷ 7 ∷ [];
        mark = 0 ∷ 0 ∷ 0 ∷ 0 ∷ 0 ∷ 0 ∷ 0 ∷ 0 ∷ 0 ∷ 7 ∷ [];
        points = row (0 ∷ 0 ∷ 4 ∷ 0 ∷ 4 ∷ 4 ∷ 0 ∷ 4 ∷ 0 ∷ 0 ∷ 9 ∷ 0 ∷ 9 ∷ 9 ∷ 0 ∷ 9 ∷ 7 ∷ 7 ∷ 7 ∷ []);
        contours = (0 ∷ 4 ∷ []) ∷ (4 ∷ 8 ∷ []) ∷ (7 ∷ 7 ∷ []) ∷ [];
        shapes = [];
      };
    }
unfolding survivors_from others successor predecessor occurrences unmark unmark_about remove decide look looks walk goes_at points cross dot limit most on_grid all_on_grid first_of last differing distinct_neighbours corners_from corners some is_simple chosen fate later shape_fate shape_outcome laid joined sound_from
w4_and_square = refl

-- the same line among shapes is dropped, and its decision counts; an empty shape stays
fallen_dropped : shapes_fate Collinear ((line ∷ []) ∷ [] ∷ (W4 ∷ []) ∷ []) ≡ record { shapes = [] ∷ (W9 ∷ []) ∷ []; tally = tally 7 7 }
unfolding survivors_from others successor predecessor occurrences unmark unmark_about remove decide look looks walk goes_at points cross dot limit most on_grid all_on_grid first_of last differing distinct_neighbours corners_from corners some is_simple chosen fate later shape_fate shapes_fate
fallen_dropped = refl

-- an empty shape, then a shape whose only contour is empty: the first stays, the second falls
empty_stays : shapes_outcome Collinear [] ((0 ∷ 0 ∷ []) ∷ []) ((0 ∷ 0 ∷ []) ∷ (0 ∷ 1 ∷ []) ∷ [])
    (record { next = []; prev = []; mark = []; points = []; contours = replicate 1 (7 ∷ 7 ∷ []); shapes = replicate 2 (7 ∷ 7 ∷ []) })
    ≡ record {
      answer = answer 0 0 0 1 0 0;
      rows = record { next = []; prev = []; mark = []; points = []; contours = (7 ∷ 7 ∷ []) ∷ []; shapes = (0 ∷ 0 ∷ []) ∷ (7 ∷ 7 ∷ []) ∷ [] };
    }
unfolding survivors_from others successor predecessor occurrences unmark unmark_about remove decide look looks walk goes_at points cross dot limit most on_grid all_on_grid first_of last differing distinct_neighbours corners_from corners some is_simple chosen fate later shape_fate shapes_fate shapes_outcome laid joined sound_from
empty_stays = refl

-- W4, then a line with a square behind it, then the square: the line's shape falls with one decision, and the last shape's ranges are shifted down
middle_falls : shapes_outcome Collinear
    (row (0 ∷ 0 ∷ 2 ∷ 0 ∷ 4 ∷ 0 ∷ 4 ∷ 4 ∷ 0 ∷ 4 ∷ 0 ∷ 0 ∷ 2 ∷ 0 ∷ 4 ∷ 0 ∷ 0 ∷ 0 ∷ 9 ∷ 0 ∷ 9 ∷ 9 ∷ 0 ∷ 9 ∷ 0 ∷ 0 ∷ 9 ∷ 0 ∷ 9 ∷ 9 ∷ 0 ∷ 9 ∷ []))
    ((0 ∷ 5 ∷ []) ∷ (5 ∷ 8 ∷ []) ∷ (8 ∷ 12 ∷ []) ∷ (12 ∷ 16 ∷ []) ∷ []) ((0 ∷ 1 ∷ []) ∷ (1 ∷ 3 ∷ []) ∷ (3 ∷ 4 ∷ []) ∷ [])
    (record { next = replicate 16 7; prev = replicate 16 7; mark = replicate 16 7; points = row (replicate 32 7); contours = replicate 4 (7 ∷ 7 ∷ []); shapes = replicate 3 (7 ∷ 7 ∷ []) })
    ≡ record {
      answer = answer 0 8 2 2 7 7;
      rows = record {
        next = replicate 16 0;
        prev = replicate 16 0;
        mark = replicate 16 0;
        points = row (0 ∷ 0 ∷ 4 ∷ 0 ∷ 4 ∷ 4 ∷ 0 ∷ 4 ∷ 0 ∷ 0 ∷ 9 ∷ 0 ∷ 9 ∷ 9 ∷ 0 ∷ 9 ∷ replicate 16 7);
        contours = (0 ∷ 4 ∷ []) ∷ (4 ∷ 8 ∷ []) ∷ (7 ∷ 7 ∷ []) ∷ (7 ∷ 7 ∷ []) ∷ [];
        shapes = (0 ∷ 1 ∷ []) ∷ (1 ∷ 2 ∷ []) ∷ (7 ∷ 7 ∷ []) ∷ [];
      };
    }
unfolding survivors_from others successor predecessor occurrences unmark unmark_about remove decide look looks walk goes_at points cross dot limit most on_grid all_on_grid first_of last differing distinct_neighbours corners_from corners some is_simple chosen fate later shape_fate shapes_fate shapes_outcome laid joined sound_from
middle_falls = refl
