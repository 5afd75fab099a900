-- What the area functions answer.
use Rattle.std.specs.Prelude.{Result, Ok, Err, ℕ, zero, suc, List, [], ◌∷◌, ◌++◌, ℤ, pos, ◌==◌}
use Rattle.grid.specs.Limits.{limit}
use Rattle.grid.specs.Points.{points}
use Rattle.grid.specs.Area.{reported, halved}
use Rattle.replies.specs.Ladder.{Rung, first_of}
use Rattle.replies.specs.declared.refusal.Refusal.{Refusal}
use Rattle.replies.specs.Refusals.{number}
use Rattle.grid.specs.Domain.{count, domain}
use Rattle.area.specs.declared.answer.Area.{Area}

-- 8: an empty contour
abbrev pub empty : List ℤ → List Rung
empty row = ((count row == 0), 8) ∷ []

-- the refusals of an area
abbrev pub refusals : List ℤ → List Rung
refusals row = domain limit row ++ empty row

-- a refusal's number and 0, or 0 and the value
abbrev pub answer : ℕ → ℤ → Area
answer zero z = record { reply = 0; value = z }
answer (suc k) z = record { reply = suc k; value = pos 0 }

-- an area or its refusal, as C has it
abbrev pub answered : Result ℤ Refusal → Area
answered (Ok z) = answer 0 z
answered (Err r) = record { reply = number r; value = pos 0 }

-- the doubled area of a contour, as it is answered
unfoldable pub doubled : List ℤ → Area
doubled row = answer (first_of (refusals row)) (reported (points row))

-- the halved area of a contour, as it is answered
unfoldable pub half : List ℤ → Area
half row = answer (first_of (refusals row)) (halved (reported (points row)))
