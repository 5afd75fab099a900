-- Worked cases.
use mathlib.Core.Path.{◌≡◌, refl}
use mathlib.Core.Bool.{xor}
use mathlib.Core.List.{List, [], ◌∷◌, ◌++◌}
use lib.IntN.{ℤ, pos, negsuc}
use Rattle.replies.specs.Ladder.{first_of}
use Rattle.grid.specs.Limits.{limit, most, on_grid, all_on_grid}
use Rattle.grid.specs.Cases.{row}
use Rattle.grid.specs.Points.{points}
use Rattle.grid.specs.Edges.{cross, dot}
use Rattle.grid.specs.Corners.{last, differing, distinct_neighbours, corners_from, corners, some}
use Rattle.path.specs.Contains.{contained, odd, crosses}
use Rattle.path.specs.Locate.{on_edge, touched, on_boundary, location}
use Rattle.ring.specs.Walk.{survivors_from, others, successor, predecessor, occurrences, unmark, unmark_about, remove, decide, look, looks, walk}
use Rattle.ring.specs.Rule.{goes_at}
use Rattle.clean.specs.Verdicts.{is_simple}
use Rattle.clean.specs.Outcome.{chosen}
use Rattle.buffer.specs.Sets.{joined}
use Rattle.pool.specs.Lists.{Entry, entry, held, own, has as has_any, removed}
use Rattle.pool.specs.Rows.{slots_from}
use Rattle.sets.specs.Verdicts.{every}
use Rattle.sets.specs.Fates.{fate}
use Rattle.sets.specs.Contains.{has}
use Rattle.sifting.specs.Cleaned.{cleaned}
use Rattle.shift.specs.Steps.{read, items, shift}
use Rattle.shift.specs.Steps.Read.{no_step}
use Rattle.shift.specs.Replay.{replay, Replay}
use Rattle.shift.specs.Outcome.{answer, plain}
use Rattle.shift.specs.declared.Replayed.{Replayed}

-- no step: another kind, another press, a count below 0, a step cut short, a count beyond the row
other_kind : read (row (5 ∷ 0 ∷ 0 ∷ 0 ∷ [])) ≡ no_step
unfolding read
other_kind = refl

below_0 : read (negsuc 0 ∷ row (0 ∷ 0 ∷ 0 ∷ [])) ≡ no_step
unfolding read
below_0 = refl

other_press : read (row (1 ∷ 2 ∷ 0 ∷ 0 ∷ [])) ≡ no_step
unfolding read
other_press = refl

count_below_0 : read (pos 0 ∷ pos 0 ∷ negsuc 0 ∷ row (0 ∷ 0 ∷ 0 ∷ 0 ∷ [])) ≡ no_step
unfolding read
count_below_0 = refl

cut_short : read (row (2 ∷ 0 ∷ [])) ≡ no_step
unfolding read
cut_short = refl

count_beyond : read (row (0 ∷ 0 ∷ 2 ∷ 7 ∷ 7 ∷ 0 ∷ 0 ∷ [])) ≡ no_step
unfolding read
count_beyond = refl

-- a triangle for the first press, a line for the second; cleaning takes the line away after one decision, so the second press has none left, and the triangle has the point 1, 1
abbrev before : List ℤ
before = row (0 ∷ 0 ∷ 3 ∷ 0 ∷ 0 ∷ 4 ∷ 0 ∷ 0 ∷ 4 ∷ 0 ∷ 0 ∷ 0 ∷ 1 ∷ 3 ∷ 0 ∷ 0 ∷ 1 ∷ 0 ∷ 2 ∷ 0 ∷ 0 ∷ 0 ∷ [])

abbrev behind : List ℤ
behind = row (1 ∷ 1 ∷ 18 ∷ 0 ∷ 4 ∷ 0 ∷ 1 ∷ 1 ∷ 0 ∷ 1 ∷ [])

abbrev played : List ℤ → Replay
played l = replay (shift l) 0 (record { pool = []; rows = record { points = []; records = []; contours = 0 } })

abbrev told_of : Replay → Replayed
told_of r = answer r.end r.agreed r.state.rows.contours

abbrev triangle : List Entry
triangle = entry 0 0 (row (0 ∷ 0 ∷ 4 ∷ 0 ∷ 0 ∷ 4 ∷ [])) ∷ []

all_agree : told_of (played (before ++ row (2 ∷ 0 ∷ 1 ∷ []) ++ behind)) ≡ plain 0 5 0 1
unfolding read items replay cleaned survivors_from others successor predecessor occurrences unmark unmark_about remove decide look looks walk goes_at points cross dot limit most on_grid all_on_grid first_of last differing distinct_neighbours corners_from corners some is_simple chosen fate own held slots_from joined has_any removed has every location on_boundary on_edge touched contained odd xor crosses
all_agree = refl

held_then : (played (before ++ row (2 ∷ 0 ∷ 1 ∷ []) ++ behind)).state.pool ≡ triangle
unfolding read items replay cleaned survivors_from others successor predecessor occurrences unmark unmark_about remove decide look looks walk goes_at points cross dot limit most on_grid all_on_grid first_of last differing distinct_neighbours corners_from corners some is_simple chosen fate own held slots_from joined has_any removed has every location on_boundary on_edge touched contained odd xor crosses
held_then = refl

-- with other decisions recorded the cleaning differs at place 22, and has been done; what is no step behind it is not reached
one_differs : told_of (played (before ++ row (2 ∷ 0 ∷ 7 ∷ 9 ∷ [])))
    ≡ record { reply = 0; differs = 1; agreed = 2; place = 22; recorded_reply = pos 0; recorded_result = pos 7; reply_now = pos 0; result_now = pos 1; contours = 1 }
unfolding read items replay cleaned survivors_from others successor predecessor occurrences unmark unmark_about remove decide look looks walk goes_at points cross dot limit most on_grid all_on_grid first_of last differing distinct_neighbours corners_from corners some is_simple chosen fate own held slots_from joined
one_differs = refl

-- no step at place 25; the steps before it stand
one_is_none : told_of (played (before ++ row (2 ∷ 0 ∷ 1 ∷ 9 ∷ []))) ≡ plain 20 3 25 1
unfolding read items replay cleaned survivors_from others successor predecessor occurrences unmark unmark_about remove decide look looks walk goes_at points cross dot limit most on_grid all_on_grid first_of last differing distinct_neighbours corners_from corners some is_simple chosen fate own held slots_from joined
one_is_none = refl
