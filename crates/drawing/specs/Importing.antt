-- What an import answers, and what it leaves in the rows that are lent to it.
use Rattle.std.specs.Prelude.{false, not, List, [], ◌∷◌, ◌++◌, ℕ, eqb, ltb, length, ℤ, Float}
use Rattle.grid.specs.Limits.{most}
use Rattle.replies.specs.Ladder.{Rung, so_far}
use Rattle.grid.specs.Domain.{count}
use Rattle.buffer.specs.Sets.{joined, contour_spans}
use Rattle.buffer.specs.Answers.{Outcome, stored}
use Rattle.drawing.specs.Commands.{asked, items}
use Rattle.drawing.specs.Faults.{first_fault}
use Rattle.drawing.specs.Outlines.{outlines}

-- 13: rows whose lengths don't match
abbrev pub mismatched : List ℕ → List Float → List Rung
mismatched kinds floats = (not (eqb (length floats) (asked kinds)), 13) ∷ []

-- the contours of two rows
abbrev pub drawn : List ℕ → List Float → List (List ℤ)
drawn kinds floats = outlines (items kinds floats)

-- 2: over 65,536 points
abbrev pub many : List (List ℤ) → List Rung
many set = (ltb most (count (joined set)), 2) ∷ []

-- what is refused of a drawing, in order: 13 for the lengths, the first faulty command's 13, 14 or 3, then 2
abbrev pub refusals : List ℕ → List Float → List Rung
refusals kinds floats = mismatched kinds floats ++ so_far (first_fault false (items kinds floats)) ++ many (drawn kinds floats)

-- a drawing is refused, also for want of room, or its contours are written, as a set, to the front of the rows
abbrev pub outcome : List ℕ → List Float → List ℤ → List (List ℕ) → Outcome
outcome kinds floats out records =
    stored (refusals kinds floats) (joined (drawn kinds floats)) (contour_spans (drawn kinds floats)) [] out records []
