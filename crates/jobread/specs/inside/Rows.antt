-- What a reader has in its rows.
use Rattle.std.specs.Prelude.{◌≡◌, List, ℕ, ◌≤◌, length, take, ℤ}
use Rattle.setfile.specs.Writing.{most_contours}
use Rattle.jobread.specs.declared.Reader.{Reader}
use Rattle.jobread.specs.Reading.{Lines, State, most_numbers}

-- the ranges that came, in front of their rows
abbrev pub lines_of : Reader → List (List ℕ) → List (List ℕ) → Lines
lines_of r contours shapes = record { reader = r; contours = take r.contours contours; shapes = take r.shapes shapes }

-- and the numbers
abbrev pub state_of : Reader → List ℤ → List (List ℕ) → List (List ℕ) → State
state_of r points contours shapes = record { points = take r.numbers points; lines = lines_of r contours shapes }

-- rows that just hold the most ranges
pub record Ranges (contours shapes : List (List ℕ)) : Type 0 where
  pub in_contours : length contours ≡ most_contours
  pub in_shapes : length shapes ≡ most_contours

-- and the most numbers
pub record Rooms (points : List ℤ) (contours shapes : List (List ℕ)) : Type 0 where
  pub in_points : length points ≡ most_numbers
  pub ranges : Ranges contours shapes

-- a reader whose counts lie within its rows, as they do
pub record Bounded (r : Reader) (points : List ℤ) (contours shapes : List (List ℕ)) : Type 0 where
  pub in_points : r.numbers ≤ length points
  pub in_contours : r.contours ≤ length contours
  pub in_shapes : r.shapes ≤ length shapes
  pub few : r.contours ≤ most_contours
