-- Edition 2 of the set file, bit by bit: its points by their differences, in the smallest width that these fit.
use Rattle.std.specs.Prelude.{ℕ, ◌+◌, Bool, not, ◌&&◌, List, [], ◌∷◌, ◌++◌, length, take, drop, ◌==◌, nat_lt}
use Rattle.bits.specs.Bits.{digit, value, field}
use Rattle.bits.specs.Widths.{width_of}
use Rattle.replies.specs.Ladder.{first_of}
use Rattle.grid.specs.Limits.{most}
use Rattle.grid.specs.Domain.{count}
use Rattle.steps.specs.Bodies.{contour_width, body, body_size, steps_in, points_of_width}
use Rattle.setfile.specs.Entries.{Entry, entry}
use Rattle.setfile.specs.Layouts.{Layout}
use Rattle.setfile.specs.Format.{begins, points_in}

-- a contour: begins-a-shape 1, point count 15, width 6, and its points
abbrev pub contour_bits : Entry → List Bool
contour_bits e = field 1 (digit e.begins) ++ (field 15 (count e.points) ++ (field 6 (contour_width e.points) ++ body e.points))

-- the width that is written of the contour in front
abbrev pub width_in : List Bool → ℕ
width_in l = value (take 6 (drop 16 l))

-- how many bits the contour in front has, by the width that is written
abbrev pub contour_size : List Bool → ℕ
contour_size l = 22 + body_size (points_in l) (width_in l)

-- the contour in front
abbrev pub contour_in : List Bool → Entry
contour_in l = entry (begins l) (points_of_width (points_in l) (width_in l) (drop 22 l))

-- what is wrong with it, behind n points: 10 its header is missing, 11 it is the first and begins no shape, 2 with its points the file promises over 65,536,
-- 10 bits are missing by the width that is written, 15 that width is not the smallest, and so also where it is 0 or over 32
abbrev pub contour_damage : Bool → ℕ → List Bool → ℕ
contour_damage first n l =
    first_of
    ((nat_lt (length l) 22, 10)
    ∷ (first && not (begins l), 11)
    ∷ (nat_lt most (n + points_in l), 2)
    ∷ (nat_lt (length l) (contour_size l), 10)
    ∷ (not (width_in l == width_of (steps_in (points_in l) (width_in l) (drop 22 l))), 15)
    ∷ [])

-- the layout of a contour
abbrev pub edition_2 : Layout
edition_2 = record { coded = contour_bits; wrong = contour_damage; size = contour_size; read = contour_in }
