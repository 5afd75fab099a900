-- What the cleaning of a shape or of shapes answers, and what it leaves in the rows that are lent to it.
use Rattle.std.specs.Prelude.{Result, Ok, Err, Option, Some, None, ℕ, zero, suc, Bool, ◌&&◌, List, [], ◌++◌, length, ℤ, nat_le}
use Rattle.replies.specs.Ladder.{Rung, first_of, room}
use Rattle.grid.specs.Domain.{count}
use Rattle.rows.specs.Rows.{front, zeroed}
use Rattle.ring.specs.declared.Rule.{Rule}
use Rattle.clean.specs.Outcome.{scratch}
use Rattle.buffer.specs.Spans.{spans, rows}
use Rattle.buffer.specs.Sets.{joined, contours, shapes, contour_spans, shape_spans}
use Rattle.buffer.specs.Contours.{refusals as contour_refusals}
use Rattle.buffer.specs.Shapes.{refusals as shape_refusals}
use Rattle.replies.specs.declared.refusal.Refusal.{Refusal}
use Rattle.replies.specs.Refusals.{number}
use Rattle.buffer.specs.declared.answer.Sizes.{Sizes}
use Rattle.sets.specs.declared.cleaning.SetCleaning.{SetCleaning}
use Rattle.sets.specs.declared.cleaning.CleanedSet.{CleanedSet}
use Rattle.sets.specs.Fates.{ShapeFate, Shapes, shape_fate, shapes_fate}
use Rattle.sets.specs.Fates.ShapeFate.{stands, fallen}

abbrev pub answer : ℕ → ℕ → ℕ → ℕ → ℕ → ℕ → CleanedSet
answer reply points contours shapes decisions turns = record { reply = reply; points = points; contours = contours; shapes = shapes; decisions = decisions; turns = turns }

-- a cleaning that ended, as C has it: 0 where something is kept, 7 where nothing is
abbrev pub ended_with : Option Sizes → ℕ → ℕ → CleanedSet
ended_with (Some s) decisions turns = answer 0 s.points s.contours s.shapes decisions turns
ended_with None decisions turns = answer 7 0 0 0 decisions turns

-- the same of a set's cleaning
abbrev pub as_cleaned : SetCleaning → CleanedSet
as_cleaned c = ended_with c.kept c.decisions c.turns

-- a set's cleaning or its refusal, as C has it
abbrev pub cleaned_as : Result SetCleaning Refusal → CleanedSet
cleaned_as (Ok c) = as_cleaned c
cleaned_as (Err r) = answer (number r) 0 0 0 0 0

-- the lent rows: the scratch, and the rows for points, contour ranges and shape ranges
pub record Lent : Type 0 where
  pub next : List ℕ
  pub prev : List ℕ
  pub mark : List ℕ
  pub points : List ℤ
  pub contours : List (List ℕ)
  pub shapes : List (List ℕ)

-- the answer of a call, and the lent rows as it leaves them
pub record Outcome : Type 0 where
  pub answer : CleanedSet
  pub rows : Lent

abbrev pub lent : List ℕ → List ℕ → List ℕ → List ℤ → List (List ℕ) → List (List ℕ) → Lent
lent next prev mark points contours shapes = record { next = next; prev = prev; mark = mark; points = points; contours = contours; shapes = shapes }

abbrev pub leaving : CleanedSet → Lent → Outcome
leaving answer rows = record { answer = answer; rows = rows }

-- the same rows with the scratch zeroed, n points being the whole input
abbrev pub swept : ℕ → Lent → Lent
swept n l = record { next = zeroed n l.next; prev = zeroed n l.prev; mark = zeroed n l.mark; points = l.points; contours = l.contours; shapes = l.shapes }

-- the rows with contours in front of the points and of the ranges, laid end to end
abbrev pub with_contours : List (List ℤ) → Lent → Lent
with_contours cs l = record { next = l.next; prev = l.prev; mark = l.mark; points = front (joined cs) l.points; contours = front (rows (contour_spans cs)) l.contours; shapes = l.shapes }

-- the rows with shapes in front
abbrev pub with_shapes : List (List (List ℤ)) → Lent → Lent
with_shapes ss l = record { next = l.next; prev = l.prev; mark = l.mark; points = front (joined (joined ss)) l.points; contours = front (rows (contour_spans (joined ss))) l.contours; shapes = front (rows (shape_spans ss)) l.shapes }

-- 5: the output rows are below the input's counts
abbrev pub enough : List ℤ → List (List ℕ) → List (List ℕ) → Lent → Bool
enough p cs ss l = nat_le (length p) (length l.points) && nat_le (length cs) (length l.contours) && nat_le (length ss) (length l.shapes)

-- 4 and 5
abbrev pub lacking : List ℤ → List (List ℕ) → List (List ℕ) → Lent → List Rung
lacking p cs ss l = scratch (count p) (length l.next) (length l.prev) (length l.mark) ++ room (enough p cs ss l)

-- by the number of the first refusal: refused, and all rows as they were, or done
abbrev pub outcome : ℕ → Lent → Outcome → Outcome
outcome (suc k) l done = leaving (answer (suc k) 0 0 0 0 0) l
outcome zero l done = done

-- a cleaned shape: kept in front of the rows, or collapsed with its first contour
abbrev pub cleaned_shape : ℕ → ShapeFate → Lent → Outcome
cleaned_shape n (stands cs t) l = record { answer = answer 0 (count (joined cs)) (length cs) 1 t.decisions t.turns; rows = swept n (with_contours cs l) }
cleaned_shape n (fallen t) l = record { answer = answer 7 0 0 0 t.decisions t.turns; rows = swept n l }

-- cleaning one shape: the contours of a contour set
unfoldable pub shape_outcome : Rule → List ℤ → List (List ℕ) → Lent → Outcome
shape_outcome rule p cs l =
    outcome (first_of (contour_refusals p cs ++ lacking p cs [] l)) l
    (cleaned_shape (count p) (shape_fate rule (contours p (spans cs))) l)

-- cleaned shapes, in front of the rows
abbrev pub cleaned_shapes : ℕ → Shapes → Lent → Outcome
cleaned_shapes n ss l = record { answer = answer 0 (count (joined (joined ss.shapes))) (length (joined ss.shapes)) (length ss.shapes) ss.tally.decisions ss.tally.turns; rows = swept n (with_shapes ss.shapes l) }

-- cleaning shapes: those of a shape set
unfoldable pub shapes_outcome : Rule → List ℤ → List (List ℕ) → List (List ℕ) → Lent → Outcome
shapes_outcome rule p cs ss l =
    outcome (first_of (shape_refusals p cs ss ++ lacking p cs ss l)) l
    (cleaned_shapes (count p) (shapes_fate rule (shapes p (spans cs) (spans ss))) l)
