-- What is wrong with a drawing.
use Rattle.std.specs.Prelude.{Bool, true, false, not, ◌&&◌, List, [], ◌∷◌, ◌++◌, ℕ, zero, suc}
use Rattle.replies.specs.Ladder.{Rung, first_of}
use Rattle.millimetres.specs.Scale.{finite, on_grid}
use Rattle.drawing.specs.declared.command.Place.{Place}
use Rattle.drawing.specs.declared.command.Command.TheVariants.{Move, Line, Close}
use Rattle.drawing.specs.Commands.{Item}
use Rattle.drawing.specs.Commands.Item.{command, no_command}

-- 14: a NaN or an infinity; then 3: off the grid
abbrev pub place_faults : Place → List Rung
place_faults p = (not (finite p.x && finite p.y), 14) ∷ (not (on_grid p.x && on_grid p.y), 3) ∷ []

-- 13: with nothing open
abbrev pub unopened : Bool → List Rung
unopened opened = (not opened, 13) ∷ []

-- what is wrong with a command, where a contour is open or not, in order
abbrev pub faults : Bool → Item → List Rung
faults opened no_command = (true, 13) ∷ []
faults opened (command (Move p)) = place_faults p
faults opened (command (Line p)) = unopened opened ++ place_faults p
faults opened (command Close) = unopened opened

-- whether a contour is open behind it
abbrev pub opens : Item → Bool
opens no_command = false
opens (command (Move p)) = true
opens (command (Line p)) = true
opens (command Close) = false

-- the first number, or the other where that is 0
abbrev pub or_else : ℕ → ℕ → ℕ
or_else (suc r) k = suc r
or_else zero k = k

-- the number of the first faulty command, or 0
unfoldable pub first_fault : Bool → List Item → ℕ
first_fault opened [] = 0
first_fault opened (c ∷ l) = or_else (first_of (faults opened c)) (first_fault (opens c) l)
