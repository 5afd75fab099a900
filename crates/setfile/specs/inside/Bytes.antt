-- What the code meets in the bytes that are left, which is the format at their bits, and what it writes, which is bits as bytes.
use Rattle.std.specs.Prelude.{ℕ, ◌+◌, ◌*◌, ◌/◌, ◌%◌, ◌^◌, Bool, List, ◌++◌, length, take, drop, ℤ, nat_le, bit_or}
use Rattle.std.specs.Int.{w32, cast_signed, from_be_bytes, from_le_bytes}
use Rattle.bits.specs.Bits.{value, bits, padded}
use Rattle.bits.specs.Signs.{fields, numbers}
use Rattle.bits.specs.inside.Words.{spelled}
use Rattle.setfile.specs.Entries.{Entry, entry, Parsed}
use Rattle.setfile.specs.Layouts.{all_coded, contours_in}
use Rattle.setfile.specs.Format.{contour_bits, begins, points_in, contour_damage, edition_1, Come, complete}

-- the number in the first two bytes
abbrev pub pair : List ℕ → ℕ
pair f = value (take 16 (bits f))

-- the coordinate in a word of four bytes
abbrev pub coordinate : List ℕ → ℤ
coordinate w = cast_signed w32 (from_be_bytes w32 w)

-- bits, and those of one word more, read from its last byte on and plus 32
abbrev pub raised : ℕ → List ℕ → ℕ
raised any w = bit_or any ((from_le_bytes w32 w + 32) % 2 ^ 32)

-- k coordinates
abbrev pub decoded : ℕ → List ℕ → List ℤ
decoded k f = numbers 32 k (bits f)

-- whether the contour in front begins a shape
abbrev pub starts : List ℕ → Bool
starts f = begins (bits f)

-- its point count
abbrev pub held : List ℕ → ℕ
held f = points_in (bits f)

-- the contour in front
abbrev pub front_entry : List ℕ → Entry
front_entry f = entry (starts f) (decoded (2 * held f) (drop 2 f))

-- what is wrong with it
abbrev pub fault : Bool → List ℕ → ℕ
fault first f = contour_damage first (bits f)

-- k contours and nothing behind them
abbrev pub walk : ℕ → Bool → List ℕ → Parsed
walk k first f = contours_in edition_1 k first 0 (bits f)

-- the contour in front is complete: that its header is there goes without saying
abbrev pub all_there : List ℕ → Bool
all_there f = nat_le (2 + 8 * held f) (length f)

-- what has come, with bytes counted and not bits
abbrev pub in_bytes : Come → Come
in_bytes c = record { contours = c.contours; missing = c.missing; past = c.past / 8 }

-- of k promised contours those that are complete, and how many bytes stand past the last
abbrev pub arrived : ℕ → List ℕ → Come
arrived k f = in_bytes (complete k (bits f))

-- coordinates in bytes
abbrev pub coded_coordinates : List ℤ → List ℕ
coded_coordinates c = padded (fields 32 c)

-- a contour in bytes
abbrev pub coded_contour : Entry → List ℕ
coded_contour e = padded (contour_bits e)

-- contours in bytes
abbrev pub coded_contours : List Entry → List ℕ
coded_contours l = padded (all_coded edition_1 l)

-- a file in bytes: its head is one number of two, 4,096 for edition 1 and the count
abbrev pub coded : List Entry → List ℕ
coded l = spelled 2 (4096 + length l) ++ coded_contours l
