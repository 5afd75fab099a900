-- What the calls on sets answer and leave.
use Rattle.std.specs.Prelude.{Result, Ok, Err, Bool, ◌&&◌, List, ◌++◌, ℕ, zero, suc, ◌*◌, leb, length, take, ℤ}
use Rattle.replies.specs.declared.refusal.Refusal.{Refusal}
use Rattle.replies.specs.Refusals.{number}
use Rattle.replies.specs.Ladder.{Rung, first_of, room}
use Rattle.grid.specs.Domain.{count}
use Rattle.buffer.specs.declared.answer.Counted.{Counted}
use Rattle.buffer.specs.declared.answer.Sizes.{Sizes}
use Rattle.buffer.specs.declared.answer.Packed.{Packed}
use Rattle.buffer.specs.declared.ranges.Span.{Span}
use Rattle.buffer.specs.Spans.{rows}
use Rattle.rows.specs.Rows.{front}

-- a refusal's number and 0, or 0 and the count
abbrev pub counted : ℕ → ℕ → Counted
counted zero n = record { reply = 0; count = n }
counted (suc k) n = record { reply = suc k; count = 0 }

-- an answer of packing
abbrev pub packed : ℕ → ℕ → ℕ → ℕ → Packed
packed reply points contours shapes = record { reply = reply; points = points; contours = contours; shapes = shapes }

-- a count or its refusal, as C has it
abbrev pub counted_as : Result ℕ Refusal → Counted
counted_as (Ok n) = record { reply = 0; count = n }
counted_as (Err r) = record { reply = number r; count = 0 }

-- the sizes of what was packed or its refusal, as C has it
abbrev pub packed_as : Result Sizes Refusal → Packed
packed_as (Ok s) = packed 0 s.points s.contours s.shapes
packed_as (Err r) = packed (number r) 0 0 0

-- an answer of packing, and the three rows as it leaves them; a contour set has no row of shapes
pub record Outcome : Type 0 where
  pub answer : Packed
  pub points : List ℤ
  pub contours : List (List ℕ)
  pub shapes : List (List ℕ)

-- an answer, and the rows
abbrev pub leaving : Packed → List ℤ → List (List ℕ) → List (List ℕ) → Outcome
leaving answer points contours shapes = record { answer = answer; points = points; contours = contours; shapes = shapes }

-- the set that was written, as far as the answer counts it: its points
abbrev pub written_points : Outcome → List ℤ
written_points o = take (2 * o.answer.points) o.points

-- its contour ranges
abbrev pub written_contours : Outcome → List (List ℕ)
written_contours o = take o.answer.contours o.contours

-- its shape ranges
abbrev pub written_shapes : Outcome → List (List ℕ)
written_shapes o = take o.answer.shapes o.shapes

-- each of the rows has room for what is to be written to it
abbrev pub enough : List ℤ → List Span → List Span → List ℤ → List (List ℕ) → List (List ℕ) → Bool
enough p cs ss out contours shapes = leb (length p) (length out) && leb (length cs) (length contours) && leb (length ss) (length shapes)

-- by the number of the first refusal: refused, and all rows as they were, or a set written to the front of the rows
abbrev pub outcome : ℕ → List ℤ → List Span → List Span → List ℤ → List (List ℕ) → List (List ℕ) → Outcome
outcome (suc k) p cs ss out contours shapes = leaving (packed (suc k) 0 0 0) out contours shapes
outcome zero p cs ss out contours shapes =
    leaving (packed 0 (count p) (length cs) (length ss)) (front p out) (front (rows cs) contours) (front (rows ss) shapes)

-- what packing a set leaves, where it is refused by these, or else for want of room
unfoldable pub stored : List Rung → List ℤ → List Span → List Span → List ℤ → List (List ℕ) → List (List ℕ) → Outcome
stored refusals p cs ss out contours shapes =
    outcome (first_of (refusals ++ room (enough p cs ss out contours shapes))) p cs ss out contours shapes
