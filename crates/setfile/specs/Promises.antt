-- What the theorems speak of.
use Rattle.std.specs.Prelude.{◌≡◌, ℕ, ◌*◌, ◌<◌, ◌≤◌, Bool, true, false, List, [], ◌∷◌, length, take, ℤ, FitsSigned}
use Rattle.std.specs.Int.{w32}
use Rattle.replies.specs.Ladder.{Rung}
use Rattle.grid.specs.Limits.{narrow, most, all_on_grid}
use Rattle.grid.specs.Domain.{count}
use Rattle.buffer.specs.declared.ranges.Span.{Span}
use Rattle.buffer.specs.Spans.{spans, rows, sound, size}
use Rattle.buffer.specs.Sets.{joined, shapes, contour_spans, shape_spans, Even}
use Rattle.setfile.specs.Entries.{Entry, contours_of, entries, shapes_of, read_contours}
use Rattle.setfile.specs.Layouts.{file_in}
use Rattle.setfile.specs.Format.{file_length, file}
use Rattle.setfile.specs.Editions.{number, layout, bound, parsed}
use Rattle.setfile.specs.Reading.{most_bytes}
use Rattle.setfile.specs.Writing.{most_contours, most_points, Outcome}
use Rattle.setfile.specs.Writing as Writing
use Rattle.setfile.specs.Writing2 as Writing2

-- something holds of each element
abbrev pub Each : {A : Type 0} → (A → Type 0) → List A → Type 0
Each P [] = Unit {0}
Each P (a ∷ l) = P a × Each P l

-- no contour has over 32,767 points
abbrev pub Short : List (List ℤ) → Type 0
Short = Each (λ (c : List ℤ). count c ≤ most_points)

-- no shape is empty
abbrev pub Filled : List (List (List ℤ)) → Type 0
Filled = Each (λ (s : List (List ℤ)). 0 < length s)

-- the first contour, if there is one, begins a shape
abbrev pub Started : List Entry → Type 0
Started [] = Unit {0}
Started (e ∷ l) = e.begins ≡ true

-- contours whose counts the fields of a file can hold
pub record Small (l : List Entry) : Type 0 where
  pub few : length l ≤ most_contours
  pub even : Even (contours_of l)
  pub short : Short (contours_of l)

-- contours that a file can hold: also the first begins a shape, and every coordinate is an i32
pub record Carried (l : List Entry) : Type 0 where
  pub small : Small l
  pub started : Started l
  pub fitting : Each (Each (FitsSigned w32)) (contours_of l)

-- a flat set that a file can carry
pub record Carriable (p : List ℤ) (cs ss : List (List ℕ)) : Type 0 where
  pub even : length p ≡ 2 * count p
  pub fits : file_length (length cs) (count p) ≤ most_bytes
  pub contours : sound (spans cs) (count p) ≡ true
  pub shapes : sound (spans ss) (length cs) ≡ true
  pub on : all_on_grid narrow p ≡ true
  pub few : length cs ≤ most_contours
  pub short : Each (λ (s : Span). size s ≤ most_points) (spans cs)
  pub filled : Each (λ (s : Span). 0 < size s) (spans ss)

-- a flat set within a bound that has a file in either edition, be that too long or not
pub record Regular (bound : ℕ) (p : List ℤ) (cs ss : List (List ℕ)) : Type 0 where
  pub even : length p ≡ 2 * count p
  pub within : count p ≤ most
  pub contours : sound (spans cs) (count p) ≡ true
  pub shapes : sound (spans ss) (length cs) ≡ true
  pub on : all_on_grid bound p ≡ true
  pub few : length cs ≤ most_contours
  pub short : Each (λ (s : Span). size s ≤ most_points) (spans cs)
  pub filled : Each (λ (s : Span). 0 < size s) (spans ss)

-- the file of a flat set
abbrev pub file_of : List ℤ → List (List ℕ) → List (List ℕ) → List ℕ
file_of p cs ss = file (entries (shapes p (spans cs) (spans ss)))

-- the file of a flat set in an edition
abbrev pub edition_file : Bool → List ℤ → List (List ℕ) → List (List ℕ) → List ℕ
edition_file second p cs ss = file_in (number second) (layout second) (entries (shapes p (spans cs) (spans ss)))

-- a flat set that a file of an edition can carry
pub record Fit (second : Bool) (p : List ℤ) (cs ss : List (List ℕ)) : Type 0 where
  pub regular : Regular (bound second) p cs ss
  pub not_long : length (edition_file second p cs ss) ≤ most_bytes

-- what is refused of a set that is written in an edition
abbrev pub write_refusals : Bool → List ℤ → List (List ℕ) → List (List ℕ) → List Rung
write_refusals true = Writing2.refusals
write_refusals false = Writing.refusals

-- and what writing it does
abbrev pub write_outcome : Bool → List ℤ → List (List ℕ) → List (List ℕ) → List ℕ → Outcome
write_outcome true = Writing2.outcome
write_outcome false = Writing.outcome

-- the file that was written, as far as the answer counts it
abbrev pub written_file : Outcome → List ℕ
written_file o = take o.answer.bytes o.bytes

-- the points of the set that is read of a file
abbrev pub points_of : List ℕ → List ℤ
points_of f = joined (contours_of (read_contours (parsed f)))

-- its contour ranges
abbrev pub contour_ranges : List ℕ → List (List ℕ)
contour_ranges f = rows (contour_spans (contours_of (read_contours (parsed f))))

-- its shape ranges
abbrev pub shape_ranges : List ℕ → List (List ℕ)
shape_ranges f = rows (shape_spans (shapes_of (read_contours (parsed f))))
