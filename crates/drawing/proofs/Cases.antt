-- Worked cases: floats by their bits.
use mathlib.Core.Path.{◌≡◌, refl}
use mathlib.Core.List.{List, [], ◌∷◌, map}
use Prim.Native.Nat.{ℕ}
use lib.IntN.{ℤ, pos, negsuc}
use lib.Ieee.{Float, binary64, of_bits, of_int, div}
use Rattle.grid.specs.Limits.{narrow, most}
use Rattle.grid.specs.Limits as G
use Rattle.replies.specs.Ladder.{first_of}
use Rattle.grid.specs.Points.{points}
use Rattle.grid.specs.Cases.{row}
use Rattle.buffer.specs.Spans.{sound_from, laid}
use Rattle.buffer.specs.Sets.{joined}
use Rattle.buffer.specs.Answers.{packed, leaving, stored, Outcome}
use Rattle.millimetres.specs.Scale.{near, finite, size, units, on_grid, millimetres}
use Rattle.drawing.specs.Commands.{item, brought, asked, items}
use Rattle.drawing.specs.Faults.{first_fault}
use Rattle.drawing.specs.Outlines.{lines, outlines}
use Rattle.drawing.specs.Importing as I
use Rattle.drawing.specs.Exporting as E

abbrev floats : List ℕ → List Float
floats = map (of_bits binary64)

abbrev naught : ℕ
naught = 0x0

-- 1.0, 1.5 and -2.0 millimetres: 1,024, 1,536 and -2,048 units
abbrev one : ℕ
one = 0x3ff0000000000000

abbrev one_half : ℕ
one_half = 0x3ff8000000000000

abbrev less_two : ℕ
less_two = 0xc000000000000000

-- a thousand million
abbrev far : ℕ
far = 0x41cdcd6500000000

abbrev not_a_number : ℕ
not_a_number = 0x7ff8000000000000

-- rows for three points and two contours
abbrev out : List ℤ
out = row (9 ∷ 9 ∷ 9 ∷ 9 ∷ 9 ∷ 9 ∷ [])

abbrev records : List (List ℕ)
records = (7 ∷ 7 ∷ []) ∷ (7 ∷ 7 ∷ []) ∷ []

abbrev imported : List ℕ → List ℕ → Outcome
imported kinds bits = I.outcome kinds (floats bits) out records

-- the rows as they were
abbrev refused : ℕ → Outcome
refused reply = leaving (packed reply 0 0 0) out records []

-- rows whose lengths don't match: a kind that is no kind brings no floats; an odd count; a place too few
lengths_differ :
    (imported (0 ∷ 7 ∷ []) (not_a_number ∷ one ∷ one ∷ one ∷ []) ≡ refused 13)
    × (imported (0 ∷ []) (far ∷ one ∷ one ∷ []) ≡ refused 13)
    × (imported (0 ∷ 1 ∷ []) (far ∷ one ∷ []) ≡ refused 13)
unfolding stored first_of asked brought
lengths_differ = (refl, refl, refl)

-- 14 over both coordinates comes before 3 over both
not_finite :
    (imported (0 ∷ []) (far ∷ not_a_number ∷ []) ≡ refused 14)
    × (imported (0 ∷ []) (0xfff0000000000000 ∷ far ∷ []) ≡ refused 14)
unfolding stored first_of asked brought items item first_fault of_bits finite
not_finite = (refl, refl)

-- off the grid: 1e9, 1e308, of which 1,024 times are no float, and half a unit past the edge
off :
    (imported (0 ∷ []) (far ∷ one ∷ []) ≡ refused 3)
    × (imported (0 ∷ []) (one ∷ 0x7fe1ccf385ebc8a0 ∷ []) ≡ refused 3)
    × (imported (0 ∷ []) (0x4120000000400000 ∷ one ∷ []) ≡ refused 3)
unfolding stored first_of asked brought items item first_fault of_bits finite on_grid size near narrow
off = (refl, refl, refl)

-- a Line or a Close with nothing open: at the row's start, and after a Close; a kind that is no kind
nothing_open :
    (imported (1 ∷ []) (one ∷ one ∷ []) ≡ refused 13)
    × (imported (2 ∷ []) [] ≡ refused 13)
    × (imported (0 ∷ 2 ∷ 1 ∷ []) (one ∷ one ∷ one ∷ one ∷ []) ≡ refused 13)
    × (imported (0 ∷ 2 ∷ 2 ∷ []) (one ∷ one ∷ []) ≡ refused 13)
    × (imported (0 ∷ 3 ∷ []) (one ∷ one ∷ []) ≡ refused 13)
unfolding stored first_of asked brought items item first_fault of_bits finite on_grid size near narrow
nothing_open = (refl, refl, refl, refl, refl)

-- the first faulty command counts, and of a command its kind first
first_counts :
    (imported (0 ∷ 7 ∷ []) (far ∷ one ∷ []) ≡ refused 3)
    × (imported (7 ∷ 0 ∷ []) (far ∷ one ∷ []) ≡ refused 13)
    × (imported (0 ∷ 2 ∷ 1 ∷ []) (one ∷ one ∷ not_a_number ∷ one ∷ []) ≡ refused 13)
unfolding stored first_of asked brought items item first_fault of_bits finite on_grid size near narrow
first_counts = (refl, refl, refl)

-- a Move after a Move leaves a contour of one point, and what is open at the row's end is ended
moves : imported (0 ∷ 0 ∷ 1 ∷ []) (one ∷ naught ∷ one_half ∷ less_two ∷ naught ∷ one ∷ [])
    ≡ leaving (packed 0 3 2 0) (pos 1024 ∷ pos 0 ∷ pos 1536 ∷ negsuc 2047 ∷ pos 0 ∷ pos 1024 ∷ []) ((0 ∷ 1 ∷ []) ∷ (1 ∷ 3 ∷ []) ∷ []) []
unfolding stored first_of asked brought items item first_fault lines outlines joined laid of_bits finite on_grid size near narrow units most
moves = refl

-- a Close ends one; behind what is written the rows stay as they were
closed : imported (0 ∷ 1 ∷ 2 ∷ []) (0x4120000000000000 ∷ 0x8000000000000000 ∷ 0x1 ∷ one ∷ [])
    ≡ leaving (packed 0 2 1 0) (pos 536870912 ∷ pos 0 ∷ pos 0 ∷ pos 1024 ∷ pos 9 ∷ pos 9 ∷ []) ((0 ∷ 2 ∷ []) ∷ (7 ∷ 7 ∷ []) ∷ []) []
unfolding stored first_of asked brought items item first_fault lines outlines joined laid of_bits finite on_grid size near narrow units most
closed = refl

-- no commands draw no contours
nothing : imported [] [] ≡ leaving (packed 0 0 0 0) out records []
unfolding stored first_of asked items first_fault outlines joined laid most
nothing = refl

-- 5: four points, or three contours; a faulty command comes before it
no_room :
    (imported (0 ∷ 1 ∷ 1 ∷ 1 ∷ []) (one ∷ one ∷ one ∷ one ∷ one ∷ one ∷ one ∷ one ∷ []) ≡ refused 5)
    × (imported (0 ∷ 0 ∷ 0 ∷ []) (one ∷ one ∷ one ∷ one ∷ one ∷ one ∷ []) ≡ refused 5)
    × (imported (0 ∷ 0 ∷ 0 ∷ 7 ∷ []) (one ∷ one ∷ one ∷ one ∷ one ∷ one ∷ []) ≡ refused 13)
unfolding stored first_of asked brought items item first_fault lines outlines joined laid of_bits finite on_grid size near narrow units most
no_room = (refl, refl, refl)

-- the way back, into rows for six commands and three points
abbrev kind_row : List ℕ
kind_row = 7 ∷ 7 ∷ 7 ∷ 7 ∷ 7 ∷ 7 ∷ []

abbrev float_row : List Float
float_row = floats (far ∷ far ∷ far ∷ far ∷ far ∷ far ∷ [])

abbrev exported : List ℤ → List (List ℕ) → E.Outcome
exported p ranges = E.outcome p ranges kind_row float_row

abbrev not_drawn : ℕ → E.Outcome
not_drawn reply = E.leaving (record { reply = reply; commands = 0; floats = 0 }) kind_row float_row

-- a point, an empty contour, which is exported as nothing, and two points; behind them the rows stay as they were
drawn : exported (pos 1024 ∷ pos 0 ∷ pos 1536 ∷ negsuc 2047 ∷ pos 0 ∷ pos 1024 ∷ []) ((0 ∷ 1 ∷ []) ∷ (1 ∷ 1 ∷ []) ∷ (1 ∷ 3 ∷ []) ∷ [])
    ≡ E.leaving (record { reply = 0; commands = 5; floats = 6 }) (0 ∷ 2 ∷ 0 ∷ 1 ∷ 2 ∷ 7 ∷ []) (floats (one ∷ naught ∷ one_half ∷ less_two ∷ naught ∷ one ∷ []))
unfolding E.outcome first_of most sound_from G.on_grid G.all_on_grid narrow E.outline joined points millimetres div of_int of_bits
drawn = refl

-- empty contours alone, and no contours
no_commands :
    (exported [] ((0 ∷ 0 ∷ []) ∷ (0 ∷ 0 ∷ []) ∷ []) ≡ E.leaving (record { reply = 0; commands = 0; floats = 0 }) kind_row float_row)
    × (exported [] [] ≡ E.leaving (record { reply = 0; commands = 0; floats = 0 }) kind_row float_row)
unfolding E.outcome first_of most sound_from G.all_on_grid E.outline joined points
no_commands = (refl, refl)

-- 1: half a point; 6: points without ranges; 3: off the grid; 5: four points
not_exported :
    (exported (pos 0 ∷ []) ((0 ∷ 7 ∷ []) ∷ []) ≡ not_drawn 1)
    × (exported (pos 536870913 ∷ pos 0 ∷ []) [] ≡ not_drawn 6)
    × (exported (pos 536870913 ∷ pos 0 ∷ []) ((0 ∷ 1 ∷ []) ∷ []) ≡ not_drawn 3)
    × (exported (row (0 ∷ 0 ∷ 1 ∷ 0 ∷ 1 ∷ 1 ∷ 0 ∷ 1 ∷ [])) ((0 ∷ 4 ∷ []) ∷ []) ≡ not_drawn 5)
unfolding E.outcome first_of most sound_from G.on_grid G.all_on_grid narrow E.outline joined points
not_exported = (refl, refl, refl, refl)
