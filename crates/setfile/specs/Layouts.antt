-- A file's contours one behind the other, in whatever way an edition lays one out.
use Rattle.std.specs.Prelude.{ℕ, zero, suc, ◌+◌, Bool, true, false, ◌||◌, List, [], ◌∷◌, ◌++◌, map, length, take, drop, nat_le}
use Rattle.bits.specs.Bits.{value, field, bits, padded}
use Rattle.replies.specs.Ladder.{first_of}
use Rattle.grid.specs.Domain.{count}
use Rattle.buffer.specs.Sets.{joined}
use Rattle.setfile.specs.Entries.{Entry, Parsed, and_then}
use Rattle.setfile.specs.Entries.Parsed.{carries, damaged}

-- how an edition lays out a contour: its bits; and of bits the number of what is wrong with the contour in front, by whether it is the first and how many points came before it, how many of them are its, and the contour
pub record Layout : Type 0 where
  pub coded : Entry → List Bool
  pub wrong : Bool → ℕ → List Bool → ℕ
  pub size : List Bool → ℕ
  pub read : List Bool → Entry

-- contours one behind the other
abbrev pub all_coded : Layout → List Entry → List Bool
all_coded y l = joined (map (λ (e : Entry). y.coded e) l)

-- the bits of a file: edition 4, contour count 12, and the contours
abbrev pub file_bits : ℕ → Layout → List Entry → List Bool
file_bits edition y l = field 4 edition ++ (field 12 (length l) ++ all_coded y l)

-- the file, whose last byte zero bits fill
abbrev pub file_in : ℕ → Layout → List Entry → List ℕ
file_in edition y l = padded (file_bits edition y l)

-- one of the bits is set
unfoldable pub some_set : List Bool → Bool
some_set [] = false
some_set (b ∷ l) = b || some_set l

-- what is wrong with the bits behind the last contour: 10 a whole byte, 16 a fill bit that is set
abbrev pub end_damage : List Bool → ℕ
end_damage l = first_of ((nat_le 8 (length l), 10) ∷ (some_set l, 16) ∷ [])

-- k contours behind n points, and behind them only the fill
unfoldable pub contours_in : Layout → ℕ → Bool → ℕ → List Bool → Parsed
contours_in y zero first n l = elim (end_damage l) [ suc r ↦ damaged (suc r) | zero ↦ carries [] ]
contours_in y (suc k) first n l =
    elim (y.wrong first n l) [
      | suc r ↦ damaged (suc r)
      | zero ↦ and_then (y.read l) (contours_in y k false (n + count (y.read l).points) (drop (y.size l) l))
    ]

-- the edition of a file
abbrev pub edition_of : List ℕ → ℕ
edition_of f = value (take 4 (bits f))

-- how many contours it promises
abbrev pub promised : List ℕ → ℕ
promised f = value (take 12 (drop 4 (bits f)))

-- what stands behind its head, in this layout
abbrev pub read_in : Layout → List ℕ → Parsed
read_in y f = contours_in y (promised f) true 0 (drop 16 (bits f))
