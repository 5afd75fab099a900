-- Comparisons, worked out.
use mathlib.Core.Path.{◌≡◌, refl}
use mathlib.Core.List.{List, [], ◌∷◌}
use Prim.Native.Nat.{ℕ}
use lib.ListN.{replicate}
use Rattle.replies.specs.Ladder.{first_of}
use Rattle.grid.specs.Limits.{limit, most, on_grid, all_on_grid}
use Rattle.grid.specs.Cases.{row, W3}
use Rattle.buffer.specs.Spans.{sound_from}
use Rattle.turned.specs.Search.{first_below, all_below}
use Rattle.turned.specs.Starts.{starts_at, started_at}
use Rattle.difference.specs.Lines.{same, elsewhere, different, compared, listed}
use Rattle.difference.specs.Outcome.{answer, leaving, outcome}

unmoved : compared W3 W3 ≡ same
unfolding compared starts_at first_below all_below
unmoved = refl

-- what starts at its second point is the first contour from its third on
started_later : compared W3 (started_at 1 W3) ≡ elsewhere 2
unfolding compared starts_at first_below all_below
started_later = refl

-- of the starts 1 and 3 the smallest is told
there_and_back : compared (row (0 ∷ 0 ∷ 4 ∷ 0 ∷ 0 ∷ 0 ∷ 4 ∷ 0 ∷ [])) (row (4 ∷ 0 ∷ 0 ∷ 0 ∷ 4 ∷ 0 ∷ 0 ∷ 0 ∷ [])) ≡ elsewhere 1
unfolding compared starts_at first_below all_below
there_and_back = refl

-- the other way round is different
reversed : compared W3 (row (0 ∷ 0 ∷ 0 ∷ 4 ∷ 4 ∷ 0 ∷ [])) ≡ different 1
unfolding compared starts_at first_below all_below
reversed = refl

-- the beginning of the other: the shorter length, either way round
beginning : compared W3 (row (0 ∷ 0 ∷ 4 ∷ 0 ∷ [])) ≡ different 2
unfolding compared starts_at first_below all_below
beginning = refl

begun : compared (row (0 ∷ 0 ∷ 4 ∷ 0 ∷ [])) W3 ≡ different 2
unfolding compared starts_at first_below all_below
begun = refl

-- of unequal counts a difference before the shorter length
before_the_end : compared W3 (row (0 ∷ 0 ∷ 5 ∷ 0 ∷ [])) ≡ different 1
unfolding compared starts_at first_below all_below
before_the_end = refl

-- two empty contours are the same; empty against not empty is different, at 0
both_empty : compared [] [] ≡ same
unfolding compared starts_at first_below all_below
both_empty = refl

empty_first : compared [] W3 ≡ different 0
unfolding compared starts_at first_below all_below
empty_first = refl

-- one contour against two, with a place more than is asked for
abbrev one : List (List ℕ)
one = (0 ∷ 3 ∷ []) ∷ []

abbrev two : List (List ℕ)
two = (0 ∷ 3 ∷ []) ∷ (3 ∷ 3 ∷ []) ∷ []

abbrev lent : ℕ → List (List ℕ)
lent n = replicate n (9 ∷ 9 ∷ [])

one_more : outcome W3 one (started_at 1 W3) two (lent 3) ≡ leaving (answer 0 0 2) ((1 ∷ 2 ∷ []) ∷ (4 ∷ 0 ∷ []) ∷ (9 ∷ 9 ∷ []) ∷ [])
unfolding outcome listed compared starts_at first_below all_below limit most on_grid all_on_grid sound_from first_of
one_more = refl

one_less : outcome W3 two W3 one (lent 2) ≡ leaving (answer 0 0 2) ((0 ∷ 0 ∷ []) ∷ (3 ∷ 0 ∷ []) ∷ [])
unfolding outcome listed compared starts_at first_below all_below limit most on_grid all_on_grid sound_from first_of
one_less = refl

-- the first set's refusal comes before the second's, and both before want of room
first_odd : outcome (row (0 ∷ [])) one (row (0 ∷ [])) one [] ≡ leaving (answer 1 1 0) []
unfolding outcome first_of
first_odd = refl

first_unsound : outcome W3 [] (row (0 ∷ [])) one [] ≡ leaving (answer 6 1 0) []
unfolding outcome limit most on_grid all_on_grid sound_from first_of
first_unsound = refl

second_off : outcome W3 one (row (0 ∷ 1073741824 ∷ [])) ((0 ∷ 1 ∷ []) ∷ []) [] ≡ leaving (answer 3 2 0) []
unfolding outcome limit most on_grid all_on_grid sound_from first_of
second_off = refl

cramped : outcome W3 one W3 two (lent 1) ≡ leaving (answer 5 0 0) (lent 1)
unfolding outcome limit most on_grid all_on_grid sound_from first_of
cramped = refl

nothing : outcome [] [] [] [] [] ≡ leaving (answer 0 0 0) []
unfolding outcome listed limit most on_grid all_on_grid sound_from first_of
nothing = refl
