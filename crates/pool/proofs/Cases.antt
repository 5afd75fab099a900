-- Worked cases.
use mathlib.Core.Path.{◌≡◌, refl}
use mathlib.Core.Bool.{true, false}
use mathlib.Core.List.{List, [], ◌∷◌}
use Prim.Native.Nat.{ℕ}
use lib.IntN.{ℤ}
use Rattle.replies.specs.Ladder.{first_of}
use Rattle.grid.specs.Limits.{limit, most, on_grid, all_on_grid}
use Rattle.grid.specs.Cases.{row}
use Rattle.buffer.specs.Sets.{joined}
use Rattle.buffer.specs.Answers.{counted}
use Rattle.pool.specs.Lists.{Entry, entry, held, own, has, removed}
use Rattle.pool.specs.Calls.{full, of_adding}
use Rattle.pool.specs.Calls.Call.{add, remove}
use Rattle.pool.specs.Rows.{slots_from, chained, held_by, sound, lent}
use Rattle.pool.specs.Outcome.{leaving, called, contours_count, held_count, free_count}
use Rattle.pool.specs.Promises.{run, heard}

abbrev triangle : List ℤ
triangle = row (0 ∷ 0 ∷ 4 ∷ 0 ∷ 0 ∷ 4 ∷ [])

abbrev point : List ℤ
point = row (1 ∷ 1 ∷ [])

-- the first press adds two, the second one between them
abbrev three : List Entry
three = entry 0 0 triangle ∷ entry 1 0 point ∷ entry 0 7 [] ∷ []

made : run true (record { press = 0; call = add 0 triangle } ∷ record { press = 1; call = add 0 point } ∷ record { press = 0; call = add 7 [] } ∷ []) [] ≡ three
unfolding run first_of all_on_grid on_grid limit most own held
made = refl

-- an empty contour holds one
holds : held (own 0 three) ≡ 4
unfolding own held
holds = refl

-- the newest of each press
first_removes : removed 0 three ≡ entry 0 0 triangle ∷ entry 1 0 point ∷ []
unfolding removed has
first_removes = refl

second_removes : removed 1 three ≡ entry 0 0 triangle ∷ entry 0 7 [] ∷ []
unfolding removed has
second_removes = refl

-- refusals: 1, 3, 5 and 18
replies : heard false 1
    (record { press = 1; call = add 0 (row (1 ∷ [])) } ∷ record { press = 0; call = remove } ∷ record { press = 1; call = add 0 (row (1073741824 ∷ 0 ∷ [])) }
    ∷ record { press = 1; call = add 0 point } ∷ record { press = 1; call = remove } ∷ []) []
    ≡ 1 ∷ 3 ∷ 5 ∷ 18 ∷ []
unfolding heard first_of all_on_grid on_grid limit most own held
replies = refl

-- 17, of a press that holds so many points beside another, and so many more
abbrev passes : ℕ → ℕ → ℕ → ℕ
passes mine others n = first_of (full mine others n)

alone_most : (passes 0 0 49152 ≡ 0) × (passes 0 0 49153 ≡ 17) × (passes 0 0 65536 ≡ 17)
unfolding first_of
alone_most = (refl, refl, refl)

beside_most : (passes 16384 40000 9152 ≡ 0) × (passes 16384 40000 9153 ≡ 17)
unfolding first_of
beside_most = (refl, refl)

empty_over : passes 49152 0 0 ≡ 17
unfolding first_of
empty_over = refl

-- 17 comes before 5
full_and_short : first_of (of_adding [] true 49152 0 false) ≡ 17
unfolding first_of all_on_grid most
full_and_short = refl

-- the same three in rows: those behind a removed one move down, and behind them the old numbers stay
abbrev points : List ℤ
points = row (0 ∷ 0 ∷ 4 ∷ 0 ∷ 0 ∷ 4 ∷ 1 ∷ 1 ∷ 9 ∷ 9 ∷ [])

abbrev records : List (List ℕ)
records = (0 ∷ 3 ∷ 0 ∷ 0 ∷ []) ∷ (3 ∷ 4 ∷ 0 ∷ 1 ∷ []) ∷ (4 ∷ 4 ∷ 7 ∷ 0 ∷ []) ∷ (8 ∷ 8 ∷ 8 ∷ 8 ∷ []) ∷ []

moved_down : called 1 remove (lent points records 3)
    ≡ leaving 0 points ((0 ∷ 3 ∷ 0 ∷ 0 ∷ []) ∷ (3 ∷ 3 ∷ 7 ∷ 0 ∷ []) ∷ (4 ∷ 4 ∷ 7 ∷ 0 ∷ []) ∷ (8 ∷ 8 ∷ 8 ∷ 8 ∷ []) ∷ []) 2
unfolding called first_of sound chained held_by own held removed has slots_from joined
moved_down = refl

-- short rows have no room, and are read all the same
short : called 0 (add 0 point) (lent points records 3) ≡ leaving 5 points records 3
unfolding called first_of sound chained held_by own held all_on_grid on_grid limit most
short = refl

reads : (contours_count 0 (lent points records 3) ≡ counted 0 2) × (held_count 0 (lent points records 3) ≡ counted 0 4) × (free_count (lent points records 3) ≡ counted 0 65531)
unfolding contours_count held_count free_count first_of sound chained held_by own held
reads = (refl, refl, refl)

-- a pool that is not sound: a record that does not follow, and one of a third press
unsound : called 0 remove (lent points records 4) ≡ leaving 6 points records 4
unfolding called first_of sound chained held_by own held removed has slots_from joined
unsound = refl

third_press : free_count (lent points ((0 ∷ 1 ∷ 0 ∷ 2 ∷ []) ∷ []) 1) ≡ counted 6 0
unfolding free_count first_of sound chained held_by own held
third_press = refl
