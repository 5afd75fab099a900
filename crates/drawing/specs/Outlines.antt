-- The contours of a drawing, on the grid.
use Rattle.std.specs.Prelude.{List, [], ◌∷◌, ◌++◌, ℤ}
use Rattle.millimetres.specs.Scale.{units}
use Rattle.drawing.specs.declared.command.Place.{Place}
use Rattle.drawing.specs.declared.command.Command.TheVariants.{Move, Line, Close}
use Rattle.drawing.specs.Commands.{Item}
use Rattle.drawing.specs.Commands.Item.{command, no_command}

-- a place in units
abbrev pub numbers : Place → List ℤ
numbers p = units p.x ∷ units p.y ∷ []

-- the places of the Lines in front, up to what is no Line
unfoldable pub lines : List Item → List ℤ
lines [] = []
lines (no_command ∷ l) = []
lines (command (Move p) ∷ l) = []
lines (command (Line p) ∷ l) = numbers p ++ lines l
lines (command Close ∷ l) = []

-- each Move begins a contour: its place, and those of the Lines behind it
unfoldable pub outlines : List Item → List (List ℤ)
outlines [] = []
outlines (no_command ∷ l) = outlines l
outlines (command (Move p) ∷ l) = (numbers p ++ lines l) ∷ outlines l
outlines (command (Line p) ∷ l) = outlines l
outlines (command Close ∷ l) = outlines l
