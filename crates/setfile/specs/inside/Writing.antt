-- What the parts of the writer say to each other.
use Rattle.std.specs.Prelude.{◌≡◌, ℕ, ◌+◌, ◌*◌, ◌^◌, ◌<◌, ◌≤◌, Bool, true, false, ◌&&◌, List, [], ◌++◌, map, length, ℤ, slice_index, slice_index_or}
use Rattle.replies.specs.Ladder.{Rung}
use Rattle.bits.specs.declared.inner.pens.Pen.{Pen}
use Rattle.bits.specs.inside.Pens.{reached, Wrote}
use Rattle.grid.specs.Limits.{limit, all_on_grid}
use Rattle.grid.specs.Domain.{count}
use Rattle.steps.specs.Bodies.{contour_width, body_size}
use Rattle.buffer.specs.Refusals.{set}
use Rattle.buffer.specs.Spans.{span, spans, sound, total}
use Rattle.buffer.specs.Sets.{cut, contour, contours, shapes}
use Rattle.buffer.specs.inside.Ranges.{Names}
use Rattle.rows.specs.Rows.{placed}
use Rattle.setfile.specs.Entries.{shape_entries, entries}
use Rattle.setfile.specs.Layouts.{all_coded, file_in}
use Rattle.setfile.specs.Editions.{number, layout}
use Rattle.setfile.specs.Writing.{most_contours, most_points, uncarried}

-- bytes were written to a row from a position on, and the position behind them is answered
pub record Put (at : ℕ) (l row : List ℕ) (end : ℕ) (exit : List ℕ) : Type 0 where
  pub is : exit ≡ placed at l row
  pub behind : end ≡ at + length l

-- there is room for these bytes from a position on
abbrev pub Room : ℕ → List ℕ → List ℕ → Type 0
Room at l row = at + length l ≤ length row

-- how many bits the pen of an edition may keep: what the first writes is whole bytes
abbrev pub most_kept : Bool → ℕ
most_kept true = 31
most_kept false = 0

-- its pen, with room for these bits behind it
pub record Penned (second : Bool) (p : Pen) (l : List Bool) (row : List ℕ) : Type 0 where
  pub small : p.kept < 2 ^ p.width
  pub few : p.width ≤ most_kept second
  pub room : reached p + length l ≤ 8 * length row

-- these bits were written with it
pub record Inked (second : Bool) (p : Pen) (l : List Bool) (row : List ℕ) (q : Pen) (exit : List ℕ) : Type 0 where
  pub wrote : Wrote p l row q exit
  pub few : q.width ≤ most_kept second

-- a contour of the grid, of no more points than a file can count
pub record Countable (c : List ℤ) : Type 0 where
  pub even : length c ≡ 2 * count c
  pub short : count c ≤ most_points
  pub on : all_on_grid limit c ≡ true

-- the ranges before a number name such contours
abbrev pub Named : List ℤ → List (List ℕ) → ℕ → Type 0
Named p cs n = (k : ℕ) → k < n → Names p cs k × Countable (contour p (span (slice_index_or cs k [])))

-- the widths of these contours
pub record Widths (p : List ℤ) (cs : List (List ℕ)) (n : ℕ) (ws : List ℕ) : Type 0 where
  pub all : n ≤ length ws
  pub is : (k : ℕ) → k < n → slice_index ws k ≡ contour_width (contour p (span (slice_index_or cs k [])))

-- every shape ends within the contours
abbrev pub Grouped : List (List ℕ) → ℕ → Type 0
Grouped ss n = (i : ℕ) → i < length ss → (span (slice_index_or ss i [])).end ≤ n

-- the contours from one number to another
abbrev pub between : List ℤ → List (List ℕ) → ℕ → ℕ → List (List ℤ)
between p cs from to = cut (contours p (spans cs)) (record { start = from; end = to })

-- the bits of their shape
abbrev pub shape_bits : Bool → List ℤ → List (List ℕ) → ℕ → ℕ → List Bool
shape_bits second p cs from to = all_coded (layout second) (shape_entries (between p cs from to))

-- the bits of the shapes of a set
abbrev pub shapes_bits : Bool → List ℤ → List (List ℕ) → List (List ℕ) → List Bool
shapes_bits second p cs ss = all_coded (layout second) (entries (shapes p (spans cs) (spans ss)))

-- the file of a set
abbrev pub file_with : Bool → List ℤ → List (List ℕ) → List (List ℕ) → List ℕ
file_with second p cs ss = file_in (number second) (layout second) (entries (shapes p (spans cs) (spans ss)))

-- a set that can be written, and room for its file
pub record Ripe (second : Bool) (p : List ℤ) (cs ss : List (List ℕ)) (row : List ℕ) : Type 0 where
  pub named : Named p cs (length cs)
  pub grouped : Grouped ss (length cs)
  pub few : length cs ≤ most_contours
  pub all : length (entries (shapes p (spans cs) (spans ss))) ≡ length cs
  pub room : length (file_with second p cs ss) ≤ length row

-- what is refused of a set within a bound, but for its file's length
abbrev pub bounded_refusals : ℕ → List ℤ → List (List ℕ) → List (List ℕ) → List Rung
bounded_refusals bound p cs ss = set bound p (sound (spans cs) (count p) && sound (spans ss) (length cs)) ++ uncarried (spans cs) (spans ss)

-- how many bits a contour is written in by the second edition
abbrev pub written_size : List ℤ → ℕ
written_size c = 22 + body_size (count c) (contour_width c)

-- how many the contours of a set are written in
abbrev pub all_size : List ℤ → List (List ℕ) → ℕ
all_size p cs = total (map written_size (contours p (spans cs)))
