-- What reading a file of either edition answers, and what it leaves in the rows that are lent to it.
use Rattle.std.specs.Prelude.{Result, Ok, Err, ℕ, zero, suc, Bool, List, [], ◌∷◌, ◌++◌, length, ℤ, nat_lt}
use Rattle.replies.specs.Ladder.{Rung, so_far}
use Rattle.grid.specs.Domain.{off}
use Rattle.buffer.specs.Sets.{joined, contour_spans, shape_spans}
use Rattle.buffer.specs.Answers as A
use Rattle.replies.specs.declared.refusal.Refusal.{Refusal}
use Rattle.replies.specs.Refusals.{number as number_of}
use Rattle.setfile.specs.declared.answer.Carried.{Carried}
use Rattle.setfile.specs.declared.answer.Read.{Read}
use Rattle.setfile.specs.Entries.{Entry, contours_of, shapes_of, damage, read_contours}
use Rattle.setfile.specs.Editions.{number, bound, is_second, parsed}

-- the most bytes of a file
abbrev pub most_bytes : ℕ
most_bytes = 65536

-- 2: a file over 65,536 bytes
abbrev pub long : ℕ → List Rung
long n = (nat_lt most_bytes n, 2) ∷ []

-- the refusals of a file, in their order: 2, its damage, 3
abbrev pub refusals : List ℕ → List Rung
refusals f = long (length f) ++ so_far (damage (parsed f)) ++ off (bound (is_second f)) (joined (contours_of (read_contours (parsed f))))

-- the set of these contours, in front of the rows
abbrev pub put : List Rung → List Entry → List ℤ → List (List ℕ) → List (List ℕ) → A.Outcome
put refusals l out contours shapes =
    A.stored refusals (joined (contours_of l)) (contour_spans (contours_of l)) (shape_spans (shapes_of l)) out contours shapes

-- what a file carries or its refusal, as C has it
abbrev pub read_as : Result Carried Refusal → Read
read_as (Ok c) = record { reply = 0; edition = c.edition; points = c.sizes.points; contours = c.sizes.contours; shapes = c.sizes.shapes }
read_as (Err r) = record { reply = number_of r; edition = 0; points = 0; contours = 0; shapes = 0 }

-- the answer, and the rows as they are left
pub record Outcome : Type 0 where
  pub answer : Read
  pub points : List ℤ
  pub contours : List (List ℕ)
  pub shapes : List (List ℕ)

abbrev pub leaving : Read → List ℤ → List (List ℕ) → List (List ℕ) → Outcome
leaving answer points contours shapes = record { answer = answer; points = points; contours = contours; shapes = shapes }

-- the edition that is answered: its number, and 0 on a refusal
abbrev pub edition_told : ℕ → Bool → ℕ
edition_told zero second = number second
edition_told (suc r) second = 0

-- what packing leaves, with the edition in its answer
abbrev pub with_edition : Bool → A.Outcome → Outcome
with_edition second o =
    leaving
    (record {
      reply = o.answer.reply;
      edition = edition_told o.answer.reply second;
      points = o.answer.points;
      contours = o.answer.contours;
      shapes = o.answer.shapes;
    })
    o.points o.contours o.shapes

-- a file is refused, also for want of room, or its set is written to the front of the rows
abbrev pub outcome : List ℕ → List ℤ → List (List ℕ) → List (List ℕ) → Outcome
outcome f out contours shapes = with_edition (is_second f) (put (refusals f) (read_contours (parsed f)) out contours shapes)

-- what was read, as a set that was packed
abbrev pub as_packed : Outcome → A.Outcome
as_packed o =
    A.leaving (A.packed o.answer.reply o.answer.points o.answer.contours o.answer.shapes) o.points o.contours o.shapes
