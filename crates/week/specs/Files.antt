-- Set files one behind the other: how many bytes the first of them has, by its headers.
use mathlib.Core.Bool.{Bool, true, false, ◌&&◌}
use mathlib.Core.List.{List, ◌++◌}
use Prim.Native.Nat.{ℕ, zero, suc, ◌+◌, ◌/◌}
use lib.Dec.{leb}
use lib.ListN.{length, drop}
use Rattle.std.specs.Prelude.{Option, Some, None}
use Rattle.bits.specs.Bits.{bits}
use Rattle.replies.specs.Ladder.{Rung, first_of}
use Rattle.setfile.specs.Layouts.{promised}
use Rattle.setfile.specs.Editions.{layout, is_second, bad_head}
use Rattle.setfile.specs.Reading.{long}
use Rattle.setfile.specs.inside.Reading.{header_size}

-- a number, where 0 stands for none
abbrev pub if_any : ℕ → Option ℕ
if_any zero = None
if_any (suc k) = Some (suc k)

-- the contour in front is all there: its header, and as many bits as that says
abbrev pub is_there : Bool → List Bool → Bool
is_there second l = leb (header_size second) (length l) && leb ((layout second).size l) (length l)

-- a number, if this holds, or else 0
abbrev pub or_none : Bool → ℕ → ℕ
or_none true n = n
or_none false n = 0

-- how many bits the contour in front has, or 0 where it is not all there
abbrev pub bits_of_next : Bool → List Bool → ℕ
bits_of_next second l = or_none (is_there second l) ((layout second).size l)

-- a number, where another is not 0, or else 0
abbrev pub unless_none : ℕ → ℕ → ℕ
unless_none zero n = 0
unless_none (suc k) n = n

-- the bit behind k contours that stand from a bit on, or 0 where one of them is not all there
unfoldable pub bit_behind : Bool → ℕ → ℕ → List Bool → ℕ
bit_behind second zero at l = at
bit_behind second (suc k) at l =
    unless_none (bits_of_next second l)
    (bit_behind second k (at + bits_of_next second l) (drop (bits_of_next second l) l))

-- the bytes that so many bits take
abbrev pub whole_bytes : ℕ → ℕ
whole_bytes n = (n + 7) / 8

-- what is refused before the first contour: 2, 10, 9
abbrev pub head_refusals : List ℕ → List Rung
head_refusals f = long (length f) ++ bad_head f

-- by the number of the first of these: 0, or the bytes of the head and of the contours that it promises
abbrev pub bytes_by : ℕ → List ℕ → ℕ
bytes_by zero f = whole_bytes (bit_behind (is_second f) (promised f) 16 (drop 16 (bits f)))
bytes_by (suc r) f = 0

-- how many bytes the first file of a row has, or 0 where its headers do not tell: its head is refused, or it is not all there
unfoldable pub own_length : List ℕ → ℕ
own_length f = bytes_by (first_of (head_refusals f)) f
