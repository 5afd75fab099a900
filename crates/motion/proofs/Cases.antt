-- The words, on worked cases.
use mathlib.Core.Path.{◌≡◌, refl}
use mathlib.Core.List.{List, [], ◌∷◌, ◌++◌}
use lib.ListN.{replicate}
use lib.IntN.{ℤ, pos, negsuc}
use Rattle.integers.specs.Modulo.{mod64}
use Rattle.grid.specs.declared.Edge.{Edge}
use Rattle.grid.specs.Limits.{limit, most, on_grid, all_on_grid}
use Rattle.grid.specs.Points.{points}
use Rattle.grid.specs.Edges.{cross, dot}
use Rattle.grid.specs.Area.{around, exact, wrapped}
use Rattle.grid.specs.Cases.{row, W3, W4}
use Rattle.replies.specs.Ladder.{first_of}
use Rattle.area.specs.Answers.{doubled}
use Rattle.ring.specs.declared.Rule.TheVariants.{Collinear}
use Rattle.ring.specs.Walk.{survivors_from, others, successor, predecessor, occurrences, unmark, unmark_about, remove, decide, look, looks, walk}
use Rattle.ring.specs.Rule.{goes_at}
use Rattle.clean.specs.Outcome.{chosen, answer, lent, leaving, outcome_by, outcome}
use Rattle.turned.specs.Starts.{started_at}
use Rattle.motion.specs.Moves.{shifted, reversed, kept_shifted, negated}

-- 3 to the right and 1 down
abbrev step : Edge
step = record { dx = pos 3; dy = negsuc 0 }

w3_shifted : shifted step W3 ≡ pos 3 ∷ negsuc 0 ∷ pos 7 ∷ negsuc 0 ∷ pos 3 ∷ pos 3 ∷ []
unfolding shifted
w3_shifted = refl

w3_reversed : reversed W3 ≡ row (0 ∷ 4 ∷ 4 ∷ 0 ∷ 0 ∷ 0 ∷ [])
unfolding reversed
w3_reversed = refl

-- from its second point on, from its third, and from a fourth that it has not
w3_started : (started_at 1 W3 ≡ row (4 ∷ 0 ∷ 0 ∷ 4 ∷ 0 ∷ 0 ∷ [])) × (started_at 2 W3 ≡ row (0 ∷ 4 ∷ 0 ∷ 0 ∷ 4 ∷ 0 ∷ [])) × (started_at 3 W3 ≡ W3)
w3_started = (refl, refl, refl)

-- W4 cleaned into a row one number longer than need be: what is written is shifted, and the last 9 stays
w4_kept : kept_shifted step (outcome Collinear W4 (lent (replicate 5 9) (replicate 5 9) (replicate 5 9) (row (replicate 11 9))))
    ≡ leaving (answer 0 4 6 6)
    (lent (replicate 5 0) (replicate 5 0) (replicate 5 0) ((pos 3 ∷ negsuc 0 ∷ pos 7 ∷ negsuc 0 ∷ pos 7 ∷ pos 3 ∷ pos 3 ∷ pos 3 ∷ []) ++ row (replicate 3 9)))
unfolding survivors_from others successor predecessor occurrences unmark unmark_about remove decide look looks walk goes_at cross dot limit most on_grid all_on_grid first_of chosen outcome_by shifted
w4_kept = refl

-- W3's area, negated
w3_negated : negated (doubled W3) ≡ record { reply = 0; value = negsuc 15 }
unfolding doubled first_of limit most on_grid all_on_grid points cross around exact wrapped mod64
w3_negated = refl

-- the square of the narrow grid, wound four times either way round, reports -2^63
abbrev square : List ℤ
square = negsuc 536870911 ∷ negsuc 536870911 ∷ pos 536870912 ∷ negsuc 536870911 ∷ pos 536870912 ∷ pos 536870912 ∷ negsuc 536870911 ∷ pos 536870912 ∷ []

abbrev wound : List ℤ
wound = square ++ square ++ square ++ square

least_stays : (doubled wound ≡ record { reply = 0; value = negsuc 9223372036854775807 }) × (doubled (reversed wound) ≡ record { reply = 0; value = negsuc 9223372036854775807 })
unfolding doubled first_of limit most on_grid all_on_grid points cross around exact wrapped mod64 reversed
least_stays = (refl, refl)
