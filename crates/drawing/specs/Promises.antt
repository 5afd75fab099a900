-- What the theorems speak of.
use Rattle.std.specs.Prelude.{List, [], ◌∷◌, ℕ, take, ℤ, Float}
use Rattle.buffer.specs.Spans.{spans}
use Rattle.buffer.specs.Sets.{contours}
use Rattle.drawing.specs.declared.command.Command.{Command}
use Rattle.drawing.specs.Commands.{kinds_of, floats_of}
use Rattle.drawing.specs.Exporting.{Outcome, commands}

-- a set but for its empty contours, which a drawing can't say
unfoldable pub without_empty : List (List ℤ) → List (List ℤ)
without_empty [] = []
without_empty ([] ∷ set) = without_empty set
without_empty ((z ∷ c) ∷ set) = (z ∷ c) ∷ without_empty set

-- the commands of a flat set
abbrev pub commands_of : List ℤ → List (List ℕ) → List Command
commands_of p ranges = commands (contours p (spans ranges))

-- their kinds
abbrev pub drawn_kinds : List ℤ → List (List ℕ) → List ℕ
drawn_kinds p ranges = kinds_of (commands_of p ranges)

-- and their floats
abbrev pub drawn_floats : List ℤ → List (List ℕ) → List Float
drawn_floats p ranges = floats_of (commands_of p ranges)

-- the drawing that was written, as far as the answer counts it: its kinds
abbrev pub written_kinds : Outcome → List ℕ
written_kinds o = take o.answer.commands o.kinds

-- its floats
abbrev pub written_floats : Outcome → List Float
written_floats o = take o.answer.floats o.floats
