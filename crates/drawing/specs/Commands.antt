-- Drawings: rows of kinds and floats, as commands.
use Rattle.std.specs.Prelude.{List, [], ◌∷◌, map, ℕ, zero, suc, ◌+◌, get_or, drop, Float}
use Rattle.std.specs.Float.{nan}
use Rattle.buffer.specs.Sets.{joined}
use Rattle.drawing.specs.declared.command.Place.{Place}
use Rattle.drawing.specs.declared.command.Command.{Command}
use Rattle.drawing.specs.declared.command.Command.TheVariants.{Move, Line, Close}

-- the place of the first two floats
abbrev pub place_of : List Float → Place
place_of floats = record { x = get_or floats 0 nan; y = get_or floats 1 nan }

-- what a kind and the floats from there on say: a command, or nothing that is one
pub data Item : Type 0 where
  command : Command → Item
  no_command : Item

-- kind 0 is a Move, 1 a Line, 2 a Close
unfoldable pub item : ℕ → List Float → Item
item zero floats = command (Move (place_of floats))
item (suc zero) floats = command (Line (place_of floats))
item (suc (suc zero)) floats = command Close
item (suc (suc (suc k))) floats = no_command

-- two floats for each Move or Line, and none for another kind
unfoldable pub brought : ℕ → ℕ
brought zero = 2
brought (suc zero) = 2
brought (suc (suc k)) = 0

-- how many floats the kinds ask for
unfoldable pub asked : List ℕ → ℕ
asked [] = 0
asked (k ∷ kinds) = brought k + asked kinds

-- the rows, read
unfoldable pub items : List ℕ → List Float → List Item
items [] floats = []
items (k ∷ kinds) floats = item k floats ∷ items kinds (drop (brought k) floats)

-- the kind of a command
abbrev pub kind : Command → ℕ
kind (Move p) = 0
kind (Line p) = 1
kind Close = 2

-- its floats
abbrev pub floats : Command → List Float
floats (Move p) = p.x ∷ p.y ∷ []
floats (Line p) = p.x ∷ p.y ∷ []
floats Close = []

-- the row of kinds of commands
abbrev pub kinds_of : List Command → List ℕ
kinds_of = map kind

-- the row of their floats
abbrev pub floats_of : List Command → List Float
floats_of l = joined (map floats l)
