-- The refusals of the calls on sets, in the order in which they are told.
use Rattle.std.specs.Prelude.{Bool, not, List, [], ◌∷◌, ◌++◌, ℕ, ◌+◌, ◌%◌, length, ℤ, ltb, eqb}
use Rattle.grid.specs.Limits.{limit, most}
use Rattle.replies.specs.Ladder.{Rung}
use Rattle.grid.specs.Domain.{count, size, off}

-- 6: ranges that are not sound
abbrev pub unsound : Bool → List Rung
unsound sound = (not sound, 6) ∷ []

-- what every call asks of a set within a bound: 1, 2, 6, 3
abbrev pub set : ℕ → List ℤ → Bool → List Rung
set bound points sound = size points ++ unsound sound ++ off bound points

-- what an addition asks of a set and of what is added: each number of both before the next, and 2 for the sum
abbrev pub both : List ℤ → List ℤ → Bool → List Rung
both points more sound =
    (eqb (length points % 2) 1, 1) ∷ (eqb (length more % 2) 1, 1)
    ∷ (ltb most (count points + count more), 2)
    ∷ (not sound, 6)
    ∷ off limit points ++ off limit more
