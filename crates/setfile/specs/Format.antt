-- Edition 1 of the set file, bit by bit.
use Rattle.std.specs.Prelude.{ℕ, zero, suc, ◌+◌, ◌*◌, Bool, true, false, not, ◌&&◌, List, [], ◌∷◌, ◌++◌, length, take, drop, ◌==◌, nat_le, nat_lt}
use Rattle.bits.specs.Bits.{digit, value, field, bits}
use Rattle.bits.specs.Signs.{fields, numbers}
use Rattle.replies.specs.Ladder.{Rung, first_of}
use Rattle.grid.specs.Domain.{count}
use Rattle.setfile.specs.Entries.{Entry, entry, Parsed}
use Rattle.setfile.specs.Entries.Parsed.{damaged}
use Rattle.setfile.specs.Layouts.{Layout, file_in, edition_of, promised, read_in}

-- a contour: begins-a-shape 1, point count 15, and per point x 32, y 32, two's complement
abbrev pub contour_bits : Entry → List Bool
contour_bits e = field 1 (digit e.begins) ++ (field 15 (count e.points) ++ fields 32 e.points)

-- whether the contour in front begins a shape
abbrev pub begins : List Bool → Bool
begins l = value (take 1 l) == 1

-- its point count
abbrev pub points_in : List Bool → ℕ
points_in l = value (take 15 (drop 1 l))

-- how many bits it has
abbrev pub contour_size : List Bool → ℕ
contour_size l = 16 + 64 * points_in l

-- the contour in front
abbrev pub contour_in : List Bool → Entry
contour_in l = entry (begins l) (numbers 32 (2 * points_in l) (drop 16 l))

-- what is wrong with it: 10 its header is missing, 11 it is the first and begins no shape, 10 points are missing
abbrev pub contour_damage : Bool → List Bool → ℕ
contour_damage first l =
    first_of ((nat_lt (length l) 16, 10) ∷ (first && not (begins l), 11) ∷ (nat_lt (length l) (contour_size l), 10) ∷ [])

-- the layout of a contour
abbrev pub edition_1 : Layout
edition_1 = record { coded = contour_bits; wrong = λ (first : Bool) (n : ℕ) (l : List Bool). contour_damage first l; size = contour_size; read = contour_in }

-- how many bytes a file has, by its counts of contours and points
abbrev pub file_length : ℕ → ℕ → ℕ
file_length contours points = 2 + 2 * contours + 8 * points

-- the file that carries these contours
unfoldable pub file : List Entry → List ℕ
file l = file_in 1 edition_1 l

-- what is wrong with the head of a file: 10 under two bytes, 9 another edition
abbrev pub bad_head : List ℕ → List Rung
bad_head f = (nat_lt (length f) 2, 10) ∷ (not (edition_of f == 1), 9) ∷ []

abbrev pub head_damage : List ℕ → ℕ
head_damage f = first_of (bad_head f)

-- a file, read
unfoldable pub parsed : List ℕ → Parsed
parsed f = elim (head_damage f) [ suc r ↦ damaged (suc r) | zero ↦ read_in edition_1 f ]

-- the contour in front is complete: its header is there, and every point that it counts
abbrev pub is_complete : List Bool → Bool
is_complete l = nat_le 16 (length l) && nat_le (contour_size l) (length l)

-- what has come of promised contours: the complete ones, how many never came, and how many bits stand past the last
pub record Come : Type 0 where
  pub contours : List Entry
  pub missing : ℕ
  pub past : ℕ

-- one contour and k more: where it is complete it stands in front of what has come of the others, else none has come
abbrev pub come_next : Bool → Entry → ℕ → Come → Come
come_next true e k c = record { contours = e ∷ c.contours; missing = c.missing; past = c.past }
come_next false e k c = record { contours = []; missing = suc k; past = 0 }

-- of k promised contours, read from the front, those that are complete
unfoldable pub complete : ℕ → List Bool → Come
complete zero l = record { contours = []; missing = 0; past = length l }
complete (suc k) l = come_next (is_complete l) (contour_in l) k (complete k (drop (contour_size l) l))

-- what has come of a file's contours
abbrev pub come : List ℕ → Come
come f = complete (promised f) (drop 16 (bits f))
