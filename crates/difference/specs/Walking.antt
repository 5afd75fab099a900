-- What a walker through a set hands out.
use Rattle.std.specs.Prelude.{Bool, true, false, ◌&&◌, ℕ, leb}
use Rattle.grid.specs.Domain.{count}
use Rattle.rows.specs.Parts.{Part, none}
use Rattle.buffer.specs.Parts.{named}

-- the part of the points from a place up to an end, if there is one
abbrev pub if_there : Bool → Part → ℕ → ℕ → Part
if_there true points place end = named points (record { start = place; end = end })
if_there false points place end = none points

-- it is there where the end is not before the place, and not past the last point
abbrev pub handed : Part → ℕ → ℕ → Part
handed points place end = if_there (leb place end && leb end (count points.numbers)) points place end
