-- Spans: where a part starts and where it ends.
use Rattle.std.specs.Prelude.{Bool, ◌&&◌, List, [], ◌∷◌, map, ℕ, ◌+◌, ◌-◌, leb, eqb, get_or}
use Rattle.buffer.specs.declared.ranges.Span.{Span}

-- a record of a lent row
abbrev pub span : List ℕ → Span
span r = record { start = get_or r 0 0; end = get_or r 1 0 }

-- the records of a lent row
abbrev pub spans : List (List ℕ) → List Span
spans = map span

-- a span as it is written to a row
abbrev pub row : Span → List ℕ
row s = s.start ∷ s.end ∷ []

-- spans as they are written to a row
abbrev pub rows : List Span → List (List ℕ)
rows = map row

-- a span starts at p, and does not run backward
abbrev pub follows : ℕ → Span → Bool
follows p s = eqb p s.start && leb s.start s.end

-- from p on each span starts where the one before it ends, none runs backward, and the last ends at the count n
unfoldable pub sound_from : ℕ → List Span → ℕ → Bool
sound_from p [] n = eqb p n
sound_from p (s ∷ l) n = follows p s && sound_from s.end l n

-- the first starts at 0; where there are no spans the count is 0
abbrev pub sound : List Span → ℕ → Bool
sound l n = sound_from 0 l n

-- a span set off by n
abbrev pub moved : ℕ → Span → Span
moved n s = record { start = s.start + n; end = s.end + n }

-- how long the part is that a span names
abbrev pub size : Span → ℕ
size s = s.end - s.start

-- the sum of sizes
abbrev pub total : List ℕ → ℕ
total [] = 0
total (n ∷ sizes) = n + total sizes

-- the spans of parts of these sizes, laid end to end from p on
unfoldable pub laid : ℕ → List ℕ → List Span
laid p [] = []
laid p (n ∷ sizes) = record { start = p; end = p + n } ∷ laid (p + n) sizes
