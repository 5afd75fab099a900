-- Both sides of the grid's limit.
use Rattle.std.proofs.Common.{◌≡◌, ℕ, List, [], ◌∷◌, ℤ, pos, negsuc, refl}
use Rattle.integers.specs.Modulo.{mod64}
use Rattle.grid.specs.Limits.{limit, most, on_grid, all_on_grid}
use Rattle.grid.specs.Points.{points}
use Rattle.grid.specs.Edges.{cross}
use Rattle.grid.specs.Area.{around, exact, wrapped}
use Rattle.replies.specs.Ladder.{first_of}
use Rattle.area.specs.Answers.{doubled, half}

-- both areas of a contour are answered
abbrev Areas : List ℤ → ℤ → ℤ → Type 0
Areas row two one = (doubled row ≡ record { reply = 0; value = two }) × (half row ≡ record { reply = 0; value = one })

-- both areas of a contour are refused
abbrev Refused : List ℤ → ℕ → Type 0
Refused row k = (doubled row ≡ record { reply = k; value = pos 0 }) × (half row ≡ record { reply = k; value = pos 0 })

at_the_limit : Areas (pos 1073741823 ∷ negsuc 1073741822 ∷ []) (pos 0) (pos 0)
unfolding doubled half first_of limit most on_grid all_on_grid points cross around exact wrapped mod64
at_the_limit = (refl, refl)

-- what is off the narrow grid alone is answered
past_the_narrow_grid : Areas (pos 536870913 ∷ pos 0 ∷ []) (pos 0) (pos 0)
unfolding doubled half first_of limit most on_grid all_on_grid points cross around exact wrapped mod64
past_the_narrow_grid = (refl, refl)

past_the_limit : Refused (pos 1073741824 ∷ pos 0 ∷ []) 3
unfolding doubled half first_of limit most on_grid all_on_grid
past_the_limit = (refl, refl)
