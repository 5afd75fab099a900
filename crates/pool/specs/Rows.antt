-- A pool in lent rows: the numbers of its contours, and a record for each.
use Rattle.std.specs.Prelude.{Bool, true, false, ◌&&◌, List, [], ◌∷◌, map, ℕ, ◌+◌, ◌-◌, leb, eqb, length, get_or, take, ℤ}
use Rattle.rows.specs.Rows.{front}
use Rattle.grid.specs.Domain.{count}
use Rattle.buffer.specs.declared.ranges.Span.{Span}
use Rattle.buffer.specs.Spans as Spans
use Rattle.buffer.specs.Sets.{joined, contour}
use Rattle.pool.specs.Lists.{Entry, entry, capacity, reserve, holding}

-- a record of the lent row: where the contour starts and ends in points, its tool and its press
pub record Slot : Type 0 where
  pub start : ℕ
  pub end : ℕ
  pub tool : ℕ
  pub press : ℕ

-- the four numbers of a record
abbrev pub slot : List ℕ → Slot
slot r = record { start = get_or r 0 0; end = get_or r 1 0; tool = get_or r 2 0; press = get_or r 3 0 }

-- the records of a lent row
abbrev pub slots : List (List ℕ) → List Slot
slots = map slot

-- where the contour lies
abbrev pub span_of : Slot → Span
span_of s = record { start = s.start; end = s.end }

-- the rows of a pool as they are lent, and how many records are in use
pub record Lent : Type 0 where
  pub points : List ℤ
  pub records : List Slot
  pub contours : ℕ

-- rows and a count, as a call takes them
abbrev pub lent : List ℤ → List (List ℕ) → ℕ → Lent
lent points records contours = record { points = points; records = slots records; contours = contours }

-- the records in use
abbrev pub used : Lent → List Slot
used s = take s.contours s.records

-- the contour that a record names
abbrev pub named : List ℤ → Slot → Entry
named points s = entry s.press s.tool (contour points (span_of s))

-- the pool that the records in use name
abbrev pub contents : Lent → List Entry
contents s = map (named s.points) (used s)

-- the numbers of contours that are laid end to end
abbrev pub numbers : List Entry → List ℤ
numbers l = joined (map (λ e. e.contour) l)

-- the record of a contour that starts at point p
abbrev pub slot_at : ℕ → Entry → Slot
slot_at p e = record { start = p; end = p + count e.contour; tool = e.tool; press = e.press }

-- the records of contours that are laid end to end from point p on
unfoldable pub slots_from : ℕ → List Entry → List Slot
slots_from p [] = []
slots_from p (e ∷ l) = slot_at p e ∷ slots_from (p + count e.contour) l

-- a pool laid out in front of the rows; what stands behind it stays
abbrev pub laid_out : List Entry → Lent → Lent
laid_out l s = record { points = front (numbers l) s.points; records = front (slots_from 0 l) s.records; contours = length l }

-- a record starts at p, does not run backward, and has a tool of 256 and one of two presses
abbrev pub follows : ℕ → Slot → Bool
follows p s = Spans.follows p (span_of s) && (leb s.tool 255 && leb s.press 1)

-- from p on each record follows the one before it, and the last ends within the places
unfoldable pub chained : ℕ → ℕ → List Slot → Bool
chained places p [] = leb p places
chained places p (s ∷ l) = follows p s && chained places s.end l

-- a number that counts only for what is the press's
abbrev pub if_mine : Bool → ℕ → ℕ
if_mine true n = n
if_mine false n = 0

-- the points that a press's records hold
unfoldable pub held_by : ℕ → List Slot → ℕ
held_by p [] = 0
held_by p (s ∷ l) = if_mine (eqb p s.press) (holding (Spans.size (span_of s))) + held_by p l

-- neither press holds any of what is kept for the other, and both together no more than the pool
abbrev pub fair : ℕ → ℕ → Bool
fair first second = (leb first (capacity - reserve) && leb second (capacity - reserve)) && leb (first + second) capacity

-- the records in use are there, name contours laid end to end within the points, and are fair
unfoldable pub sound : Lent → Bool
sound s =
    leb s.contours (length s.records)
    && chained (count s.points) 0 (used s)
    && fair (held_by 0 (used s)) (held_by 1 (used s))
